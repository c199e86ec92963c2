-- Each step keeps the agreement of the machine with the day.
use Prim.Native.Nat.{suc, ℕ}
use mathlib.Core.Bool.{Bool, ◌||◌, cond, false, true}
use mathlib.Core.Path.{◌∙◌, ◌≡◌, ap, refl, sym}
use mathlib.Core.Logic.{◌⊎◌, inl, inr}
use mathlib.Core.Option.{Option, none, some}
use mathlib.Core.List.Memᴰ
use mathlib.Core.List.{[], ◌++◌, ◌∷◌}
use native.Mathlib.Omega.{arith}
use lib.ListN.{length}
use lib.Dec.{eqb}
use borrow.Author.Tests.{eqb-false, eqb-true, ne_eqb}
use Rattle.diagram.proofs.Arranged.Advance.{on-bound}
use Rattle.diagram.proofs.Days.Moves.{CanDrop, CanEnter, CanFork, CanJoin, dropped_out, drops_of, enters, forked_out, joined_out, joins_into, forks_at}
use Rattle.diagram.proofs.Days.Yielding.{sound-close}
use Rattle.machine.proofs.Follow.Agrees.{Agree, inherited-step, ordered, terminal-low}
use Rattle.diagram.proofs.Graph.Paths.{Ordered, one_more}
use Rattle.diagram.proofs.Graph.Tables.{tabulate-newest, tabulate-older}
use Rattle.machine.proofs.Flags.Joinable.{J, J-enter, J-join-other, J-joiner, J-fork-copy, J-fork-new, J-fork-old, J-fork-self}
use Rattle.machine.proofs.Flags.Joinable.{flagged_moves, flags-close}
use Rattle.machine.proofs.Flags.Terminals.{caught, caught-join, caught-joiner, caught-other, caught-own, caught-fork, caught-forked}
use Rattle.diagram.proofs.Order.Growth.{Fine, fine_moves}
use Rattle.diagram.proofs.Order.Inherited.{inherited, inherited_older, inherited-start, view-split-own}
use Rattle.diagram.proofs.Order.Numbered.{numbered_moves}
use Rattle.diagram.specs.Checks.{not_joinable}
use Rattle.lists.specs.Names.{Name}
use Rattle.diagram.specs.Day.{Day, IsOut}
use Rattle.diagram.specs.Diagram.{Diagram, Vertex, event, fork, join, start}
use Rattle.diagram.specs.Effects.{entry}
use Rattle.diagram.specs.Views.{own, own_step, view_step}
use Rattle.machine.specs.Machine.{Machine, drop_on, enter_on, fork_on, join_on, revision_of, yield_on}
use Rattle.diagram.specs.Steps.{drop_at, enter, enters_into, new_update, fork_at, join_into, yield}
use Rattle.lists.proofs.Cases.{cases, split}
use Rattle.lists.proofs.Changed.{changed-other, changed_same}
use Rattle.lists.specs.Pool.{fork_pool, join_pool}
use Rattle.lists.specs.Lists.{changed}
use Rattle.lists.specs.Arranged.{remove}

module _ (y : Day) (k : Machine) (A : Agree y k) where
  abbrev d : Diagram
  d = y.diagram

  abbrev F : Fine y
  F = A.flagged.fine

  pub agree-enter : (c r : ℕ) (u : Bool) → CanEnter y c r → Agree (enter y c r u) (enter_on k c r u)
  unfolding flagged_moves fine_moves
  agree-enter c r u E = record {
    flagged = flagged_moves y (enter y c r u) A.flagged (enters c r u E);
    numbered = numbered_moves y (enter y c r u) A.numbered (enters c r u E);
    same_layout = A.same_layout;
    same_inherited = λ s o. A.same_inherited s o ∙ sym (inherited-step y k A v r s refl);
    same_revisions = A.same_revisions;
    same_joined = A.same_joined;
    same_joinable = λ a b oa ob. A.same_joinable a b oa ob ∙ sym (J-enter y F c r u a b);
    same_caught_up = caught';
    same_open_on = open';
    same_updates = rw A.same_updates;
    same_own = own';
  }
    where
      v : Vertex
      v = event (y.terminal r) c (new_update y u)

      F' : Fine (enter y c r u)
      F' = fine_moves y (enter y c r u) F (enters c r u E)

      caught' : (o x : ℕ) → IsOut y x → cond (eqb o c) (eqb x r) (k.caught_up o x) ≡ caught (enter y c r u) o x
      caught' o x ox =
          cases (eqb o c)
          (λ e. ap (λ z. cond z (eqb x r) (k.caught_up o x)) e ∙ sym (caught-own y F c r u x) ∙ ap (λ z. caught (enter y c r u) z x) (sym (eqb-true o c e)))
          (λ e. ap (λ z. cond z (eqb x r) (k.caught_up o x)) e ∙ A.same_caught_up o x ox ∙ sym (caught-other y F c r u o x (eqb-false o c e)))

      -- another client's open transaction is not the one that the event goes into
      other : (o : ℕ) → (o ≡ c → ⊥) → (q : Option ℕ) → y.open_by o ≡ q → revision_of y.transaction q ≡ revision_of (enter y c r u).transaction q
      other o n none e = refl
      other o n (some s) e =
          let e' : (enter y c r u).open_by o ≡ some s = changed-other y.open_by c (some (enters_into y (y.open_by c))) o n ∙ e in
          let t = (F'.sound.runs o s e').client in
          let far : s ≡ enters_into y (y.open_by c) → ⊥ = λ z. n (sym t ∙ ap (λ i. ((enter y c r u).transaction i).client) z ∙ ap (λ w. w.client) (changed_same y.transaction (enters_into y (y.open_by c)) _)) in
          ap (λ w. some w.revision) (sym (changed-other y.transaction (enters_into y (y.open_by c)) _ s far))

      open' : (o : ℕ) → changed k.open_on c (some r) o ≡ revision_of (enter y c r u).transaction ((enter y c r u).open_by o)
      open' o =
          cases (eqb o c)
          (λ e. rw e (ap (λ w. some w.revision) (sym (changed_same y.transaction (enters_into y (y.open_by c)) _))))
          (λ e. rw e (A.same_open_on o ∙ other o (eqb-false o c e) (y.open_by o) refl))

      own' : (s : ℕ) → IsOut y s → changed k.own r (k.own r ++ entry (cond u (some k.updates) none)) s ≡ own (v ∷ d) (changed y.terminal r (length d) s)
      own' s o =
          cases (eqb s r)
          (λ e. rw (e, tabulate-newest own_step [] v d, A.same_updates, A.same_own r E.out))
          (λ e. rw (e, tabulate-older own_step [] v d (y.terminal s) (terminal-low y k A s)) (A.same_own s o))

  -- a yield closes the open transaction, if there is one
  agree-close : (c t : ℕ) → y.open_by c ≡ some t → Agree (yield y c (some t)) (yield_on k c)
  unfolding not_joinable
  agree-close c t q = record {
    flagged = record { fine = record { layout = F.layout; hold = F.hold; sound = sound-close y F.layout F.hold F.sound c t q }; flags = flags-close y F A.flagged.flags c t };
    numbered = A.numbered;
    same_layout = A.same_layout;
    same_inherited = A.same_inherited;
    same_revisions = A.same_revisions;
    same_joined = A.same_joined;
    same_joinable = A.same_joinable;
    same_caught_up = A.same_caught_up;
    same_open_on = λ o. cases (eqb o c) (λ e. rw e) (λ e. rw e (A.same_open_on o ∙ by (y.open_by o)));
    same_updates = A.same_updates;
    same_own = A.same_own;
  }
    where
      same : (s : ℕ) → ((yield y c (some t)).transaction s).revision ≡ (y.transaction s).revision
      same s = cases (eqb s t) (λ e. rw (e, eqb-true s t e)) (λ e. rw e)

      by : (o : Option ℕ) → revision_of y.transaction o ≡ revision_of (yield y c (some t)).transaction o
      by none = refl
      by (some s) = ap (λ z. some z) (sym (same s))

  pub agree-yield : (c : ℕ) (q : Option ℕ) → y.open_by c ≡ q → Agree (yield y c q) (yield_on k c)
  agree-yield c none q = record {
    flagged = A.flagged;
    numbered = A.numbered;
    same_layout = A.same_layout;
    same_inherited = A.same_inherited;
    same_revisions = A.same_revisions;
    same_joined = A.same_joined;
    same_joinable = A.same_joinable;
    same_caught_up = A.same_caught_up;
    same_open_on = λ o. cases (eqb o c) (λ e. rw e (sym (ap (revision_of y.transaction) (ap y.open_by (eqb-true o c e) ∙ q)))) (λ e. rw e (A.same_open_on o));
    same_updates = A.same_updates;
    same_own = A.same_own;
  }
  agree-yield c (some t) q = agree-close c t q

  abbrev n : ℕ
  n = y.revisions

  pub agree-fork : (r : ℕ) (name : Option Name) → CanFork y r name → Agree (fork_at y r name) (fork_on k r)
  unfolding flagged_moves fine_moves
  agree-fork r name N = record {
    flagged = flagged_moves y (fork_at y r name) A.flagged (forks_at r name N);
    numbered = numbered_moves y (fork_at y r name) A.numbered (forks_at r name N);
    same_layout = rw (A.same_revisions, A.same_layout);
    same_inherited = λ s o. rw A.same_revisions (inherited' s o);
    same_revisions = ap suc A.same_revisions;
    same_joined = λ s. rw A.same_revisions (cases (eqb s n) (λ e. rw e) (λ e. rw e (A.same_joined s)));
    same_joinable = λ a b oa ob. rw A.same_revisions (joinable' a b oa ob (split (eqb b n)) (split (eqb a n)));
    same_caught_up = λ c x o. rw A.same_revisions (caught' c x o);
    same_open_on = A.same_open_on;
    same_updates = A.same_updates;
    same_own = λ s o. rw A.same_revisions (own' s o);
  }
    where
      fv : Vertex
      fv = fork (y.terminal r)

      sv : Vertex
      sv = start (length d)

      ordered1 : Ordered (fv ∷ d)
      ordered1 = one_more {v = fv} {d = d} (λ p i. rw (Memᴰ.eq_of_singleton i) (terminal-low y k A r)) (ordered y k A)

      -- the new revision inherits what the forker's terminal shows
      taken : k.inherited r ++ k.own r ≡ inherited (sv ∷ fv ∷ d) (suc (length d))
      taken =
          ap (λ t. t ++ k.own r) (A.same_inherited r N.out) ∙ ap (λ t. inherited d (y.terminal r) ++ t) (A.same_own r N.out)
          ∙ sym (view-split-own (ordered y k A) (y.terminal r) (terminal-low y k A r)) ∙ sym (tabulate-newest view_step [] fv d) ∙ sym (inherited-start (fv ∷ d) ordered1 (length d) (omega arith))

      inherited' : (s : ℕ) → IsOut (fork_at y r name) s → changed k.inherited n (k.inherited r ++ k.own r) s ≡ inherited (sv ∷ fv ∷ d) ((fork_at y r name).terminal s)
      inherited' s o =
          cases (eqb s n)
          (λ e. rw e taken)
          (λ e. rw e (A.same_inherited s (forked_out y r name s o e) ∙ sym (inherited-step y k A fv r s refl) ∙ sym (inherited_older sv (fv ∷ d) ordered1 (changed y.terminal r (length d) s) (on-bound d fv y.terminal (terminal-low y k A) r s))))

      own_old : (s : ℕ) → IsOut y s → k.own s ≡ own (fv ∷ d) (changed y.terminal r (length d) s)
      own_old s o =
          cases (eqb s r)
          (λ e. rw (e, tabulate-newest own_step [] fv d) (A.same_own s o ∙ ap (λ i. own d (y.terminal i)) (eqb-true s r e)))
          (λ e. rw (e, tabulate-older own_step [] fv d (y.terminal s) (terminal-low y k A s)) (A.same_own s o))

      own' : (s : ℕ) → IsOut (fork_at y r name) s → changed k.own n [] s ≡ own (sv ∷ fv ∷ d) ((fork_at y r name).terminal s)
      own' s o =
          cases (eqb s n)
          (λ e. rw e (sym (tabulate-newest own_step [] sv (fv ∷ d))))
          (λ e. rw (e, tabulate-older own_step [] sv (fv ∷ d) (changed y.terminal r (length d) s) (on-bound d fv y.terminal (terminal-low y k A) r s)) (own_old s (forked_out y r name s o e)))

      caught' : (c x : ℕ) → IsOut (fork_at y r name) x → cond (eqb x n) (k.caught_up c r) (k.caught_up c x) ≡ caught (fork_at y r name) c x
      caught' c x o =
          cases (eqb x n)
          (λ e. ap (λ t. cond t (k.caught_up c r) (k.caught_up c x)) e ∙ A.same_caught_up c r N.out ∙ sym (caught-forked y F r name c) ∙ ap (λ t. caught (fork_at y r name) c t) (sym (eqb-true x n e)))
          (λ e. ap (λ t. cond t (k.caught_up c r) (k.caught_up c x)) e ∙ A.same_caught_up c x (forked_out y r name x o e) ∙ sym (caught-fork y F r name c x (eqb-false x n e)))

      joinable' : (a b : ℕ) → IsOut (fork_at y r name) a → IsOut (fork_at y r name) b → (eqb b n ≡ true) ⊎ (eqb b n ≡ false) → (eqb a n ≡ true) ⊎ (eqb a n ≡ false) → fork_pool k.joinable r n a b ≡ J (fork_at y r name) a b
      joinable' a b oa ob (inl e) (inl g) =
          ap (λ t. cond t (eqb a r) (changed k.joinable n (k.joinable r) a b)) e ∙ ne_eqb a r (λ i. omega (arith, eqb-true a n g, N.out.0))
          ∙ sym (J-fork-self y F r name) ∙ ap (λ t. J (fork_at y r name) t n) (sym (eqb-true a n g)) ∙ ap (λ t. J (fork_at y r name) a t) (sym (eqb-true b n e))
      joinable' a b oa ob (inl e) (inr g) =
          ap (λ t. cond t (eqb a r) (changed k.joinable n (k.joinable r) a b)) e ∙ sym (J-fork-new y F r name a (λ p. omega (arith, N.out.0)) (eqb-false a n g)) ∙ ap (λ t. J (fork_at y r name) a t) (sym (eqb-true b n e))
      joinable' a b oa ob (inr e) (inl g) =
          ap (λ t. cond t (eqb a r) (changed k.joinable n (k.joinable r) a b)) e ∙ ap (λ t. cond t (k.joinable r) (k.joinable a) b) g ∙ A.same_joinable r b N.out (forked_out y r name b ob e)
          ∙ sym (J-fork-copy y F A.flagged.flags r name N b (eqb-false b n e)) ∙ ap (λ t. J (fork_at y r name) t b) (sym (eqb-true a n g))
      joinable' a b oa ob (inr e) (inr g) =
          ap (λ t. cond t (eqb a r) (changed k.joinable n (k.joinable r) a b)) e ∙ ap (λ t. cond t (k.joinable r) (k.joinable a) b) g
          ∙ A.same_joinable a b (forked_out y r name a oa g) (forked_out y r name b ob e) ∙ sym (J-fork-old y F r name a b (eqb-false a n g) (eqb-false b n e))

  pub agree-join : (a b : ℕ) → CanJoin y a b → Agree (join_into y a b) (join_on k a b)
  unfolding flagged_moves fine_moves
  agree-join a b H = record {
    flagged = flagged_moves y (join_into y a b) A.flagged (joins_into a b H);
    numbered = numbered_moves y (join_into y a b) A.numbered (joins_into a b H);
    same_layout = ap (remove b) A.same_layout;
    same_inherited = λ s o. A.same_inherited s (joined_out y a b s o).0 ∙ sym (inherited-step y k A jv a s refl);
    same_revisions = A.same_revisions;
    same_joined = λ s. cases (eqb s b) (λ e. rw e) (λ e. rw e (A.same_joined s));
    same_joinable = joinable';
    same_caught_up = caught';
    same_open_on = A.same_open_on;
    same_updates = A.same_updates;
    same_own = own';
  }
    where
      jv : Vertex
      jv = join (y.terminal a) (y.terminal b)

      own' : (s : ℕ) → IsOut (join_into y a b) s → changed k.own a (k.own a ++ k.own b) s ≡ own (jv ∷ d) (changed y.terminal a (length d) s)
      own' s o =
          cases (eqb s a)
          (λ e. rw (e, tabulate-newest own_step [] jv d, A.same_own a H.out_a, A.same_own b H.out_b))
          (λ e. rw (e, tabulate-older own_step [] jv d (y.terminal s) (terminal-low y k A s)) (A.same_own s (joined_out y a b s o).0))

      joinable' : (x z : ℕ) → IsOut (join_into y a b) x → IsOut (join_into y a b) z → join_pool k.joinable a b x z ≡ J (join_into y a b) x z
      joinable' x z ox oz =
          cases (eqb x a)
          (λ e.
          ap (λ t. cond t (λ w. k.joinable a w || k.joinable b w) (k.joinable x) z) e
          ∙ ap (λ t. t || k.joinable b z) (A.same_joinable a z H.out_a (joined_out y a b z oz).0) ∙ ap (λ t. J y a z || t) (A.same_joinable b z H.out_b (joined_out y a b z oz).0)
          ∙ sym (J-joiner y F A.flagged.flags a b H z oz) ∙ ap (λ t. J (join_into y a b) t z) (sym (eqb-true x a e)))
          (λ e. ap (λ t. cond t (λ w. k.joinable a w || k.joinable b w) (k.joinable x) z) e ∙ A.same_joinable x z (joined_out y a b x ox).0 (joined_out y a b z oz).0 ∙ sym (J-join-other y F A.flagged.flags a b H x z (eqb-false x a e)))

      caught' : (c x : ℕ) → IsOut (join_into y a b) x → cond (eqb x a) (k.caught_up c a || k.caught_up c b) (k.caught_up c x) ≡ caught (join_into y a b) c x
      caught' c x o =
          cases (eqb x a)
          (λ e.
          ap (λ t. cond t (k.caught_up c a || k.caught_up c b) (k.caught_up c x)) e ∙ ap (λ t. t || k.caught_up c b) (A.same_caught_up c a H.out_a) ∙ ap (λ t. caught y c a || t) (A.same_caught_up c b H.out_b)
          ∙ sym (caught-joiner y F a b c) ∙ ap (λ t. caught (join_into y a b) c t) (sym (eqb-true x a e)))
          (λ e. ap (λ t. cond t (k.caught_up c a || k.caught_up c b) (k.caught_up c x)) e ∙ A.same_caught_up c x (joined_out y a b x o).0 ∙ sym (caught-join y F a b c x (eqb-false x a e)))

  -- no vertex is added: what is out still stands as it did
  pub agree-drop : (r : ℕ) → CanDrop y r → Agree (drop_at y r) (drop_on k r)
  unfolding flagged_moves fine_moves not_joinable
  agree-drop r D = record {
    flagged = flagged_moves y (drop_at y r) A.flagged (drops_of r D);
    numbered = A.numbered;
    same_layout = ap (remove r) A.same_layout;
    same_inherited = λ s o. A.same_inherited s (dropped_out y r s o).0;
    same_revisions = A.same_revisions;
    same_joined = λ s. cases (eqb s r) (λ e. rw e) (λ e. rw e (A.same_joined s));
    same_joinable = λ a b oa ob. A.same_joinable a b (dropped_out y r a oa).0 (dropped_out y r b ob).0;
    same_caught_up = λ c x o. A.same_caught_up c x (dropped_out y r x o).0;
    same_open_on = A.same_open_on;
    same_updates = A.same_updates;
    same_own = λ s o. A.same_own s (dropped_out y r s o).0;
  }
