-- The day's revisions that are out have a layout: the diagram, terminals and start vertices of the day are linked to it.
use Prim.Native.Nat.{ℕ, ◌<◌}
use mathlib.Core.Bool.{Bool, true, false}
use mathlib.Core.Path.{◌≡◌, refl, sym, ◌∙◌, ap}
use mathlib.Core.Option.{Option, none, some}
use mathlib.Core.List.Memᴰ
use mathlib.Core.List.Sublistᴰ
use mathlib.Core.List.{List, [], ◌∷◌}
use native.Mathlib.Omega.{arith}
use lib.ListN.{length}
use lib.Dec.{eqb}
use borrow.Author.Tests.{eqb-false, eqb-true}
use Rattle.lists.specs.Lists.{◌∈◌, ◌⊑◌, changed}
use Rattle.lists.specs.Names.{Name}
use Rattle.lists.specs.Arranged.{insert_before, remove}
use Rattle.lists.proofs.Cases.{cases, either}
use Rattle.lists.proofs.Changed.{changed-other, changed_same}
use Rattle.lists.proofs.Places.{insert_back, insert_new, insert_old, insert_pair, insert_self, insert_sub, remove_back, remove_gone, remove-keep, remove_sub}
use Rattle.diagram.specs.Diagram.{Diagram, Vertex, event, fork, join, start}
use Rattle.diagram.specs.Effects.{fork_vertex, tabulate}
use Rattle.diagram.specs.Day.{Day, IsOut, fresh}
use Rattle.diagram.specs.Steps.{drop_at, enter, new_update, fork_at, join_into, yield}
use Rattle.diagram.proofs.Graph.Events.{own_events}
use Rattle.diagram.proofs.Graph.Tables.{fork_step, tabulate-newest, tabulate-older}
use Rattle.diagram.proofs.Arranged.Advance.{Linked, May, linked_fork, on-bound}
use Rattle.diagram.proofs.Arranged.Built.{linked_drop, linked-join, linked_root, linked-start, linked_update, lone}
use Rattle.diagram.proofs.Days.Moves.{CanDrop, CanEnter, CanFork, CanJoin, not_last, dropped_out, forked_out, joined_out}

pub record Real (y : Day) (layout : List ℕ) : Type 0 where
  pub linked : Linked y.diagram layout y.terminal y.start_of
  pub out : (r : ℕ) → IsOut y r → r ∈ layout
  pub back : (r : ℕ) → r ∈ layout → IsOut y r
  -- the main revision stands left of all others
  pub leftmost : (r : ℕ) → r ∈ layout → (r ≡ 0 → ⊥) → (r ∷ 0 ∷ []) ⊑ layout
  pub forks : (r : ℕ) → r < y.revisions → (r ≡ 0 → ⊥) → fork_vertex y.diagram (y.terminal r) ≡ some (y.fork_of r)
  pub main : fork_vertex y.diagram (y.terminal 0) ≡ none
  pub starts_low : (r : ℕ) → y.start_of r < length y.diagram
  pub forks_low : (r : ℕ) → y.fork_of r < length y.diagram

pub real_fresh : Real fresh (0 ∷ [])
unfolding tabulate
real_fresh = record {
  linked = linked_root;
  out = λ r o. let b : r < 1 = o.0 in let e : r ≡ 0 = omega arith in Memᴰ.head e;
  back = λ r i. (omega (arith, Memᴰ.eq_of_singleton i), refl);
  leftmost = λ r i n. absurd (n (Memᴰ.eq_of_singleton i));
  forks = λ r h n. let b : r < 1 = h in absurd (n (omega arith));
  main = refl;
  starts_low = λ r. omega arith;
  forks_low = λ r. omega arith;
}

module _ (y : Day) (layout : List ℕ) (R : Real y layout) where
  abbrev d : Diagram
  d = y.diagram

  terminal-low : (r : ℕ) → y.terminal r < length d
  terminal-low r = R.linked.bound r

  -- a vertex that goes on from r's terminal
  fork-stays : (v : Vertex) (r : ℕ) → fork_step d (fork_vertex d) v ≡ fork_vertex d (y.terminal r) → (s : ℕ) → fork_vertex (v ∷ d) (changed y.terminal r (length d) s) ≡ fork_vertex d (y.terminal s)
  fork-stays v r q s =
      cases (eqb s r)
      (λ e. rw (e, tabulate-newest fork_step none v d) (q ∙ ap (λ z. fork_vertex d (y.terminal z)) (sym (eqb-true s r e))))
      (λ e. rw (e, tabulate-older fork_step none v d (y.terminal s) (terminal-low s)))

  forks-on : (v : Vertex) (r : ℕ) → fork_step d (fork_vertex d) v ≡ fork_vertex d (y.terminal r) → (s : ℕ) → s < y.revisions → (s ≡ 0 → ⊥) → fork_vertex (v ∷ d) (changed y.terminal r (length d) s) ≡ some (y.fork_of s)
  forks-on v r q s h n = fork-stays v r q s ∙ R.forks s h n

  pub real-enter : (c r : ℕ) (u : Bool) → CanEnter y c r → Real (enter y c r u) layout
  real-enter c r u E = record {
    linked = linked_update d layout y.terminal y.start_of R.linked r (R.out r E.out) c (new_update y u);
    out = R.out;
    back = R.back;
    leftmost = R.leftmost;
    forks = forks-on (event (y.terminal r) c (new_update y u)) r refl;
    main = fork-stays (event (y.terminal r) c (new_update y u)) r refl 0 ∙ R.main;
    starts_low = λ s. omega (arith, R.starts_low s);
    forks_low = λ s. omega (arith, R.forks_low s);
  }

  pub real-close : (c t : ℕ) → Real (yield y c (some t)) layout
  real-close c t = record {
    linked = R.linked;
    out = R.out;
    back = R.back;
    leftmost = R.leftmost;
    forks = R.forks;
    main = R.main;
    starts_low = R.starts_low;
    forks_low = R.forks_low;
  }

  pub real-fork : (r : ℕ) (name : Option Name) → CanFork y r name → Real (fork_at y r name) (insert_before r y.revisions layout)
  real-fork r name N = record {
    linked = linked-start (fv ∷ d) layout terminals y.start_of forked r r-in n n-new (length d) (changed_same y.terminal r (length d)) refl (lone d layout y.terminal y.start_of R.linked r);
    out = λ s o. cases (eqb s n)
        (λ e. Memᴰ.cast (eqb-true s n e) (insert_new r n layout r-in))
        (λ e. insert_old r n s layout (R.out s (forked_out y r name s o e)));
    back = λ s i. either (insert_back r n s layout i) (λ e. rw e (omega arith, changed_same y.joined n false)) (λ j. let o = R.back s j in (omega (arith, o.0), changed-other y.joined n false s (λ e. omega (arith, o.0)) ∙ o.1));
    leftmost = λ s i z. either (insert_back r n s layout i) (λ e. rw e left-new) (λ j. Sublistᴰ.trans (R.leftmost s j z) (insert_sub r n layout));
    forks = λ s h z. cases (eqb s n) (λ e. rw e (tabulate-newest fork_step none sv (fv ∷ d))) (λ e. rw e (start-on s ∙ forks-on fv r refl s (not_last s n h e) z));
    main = cases (eqb 0 n) (λ e. let k = eqb-true 0 n e in absurd (omega (arith, N.out.0))) (λ e. rw e (start-on 0 ∙ fork-stays fv r refl 0 ∙ R.main));
    starts_low = λ s. cases (eqb s n) (λ e. rw e (omega arith)) (λ e. rw e (omega (arith, R.starts_low s)));
    forks_low = λ s. cases (eqb s n) (λ e. rw e (omega arith)) (λ e. rw e (omega (arith, R.forks_low s)));
  }
    where
      n : ℕ
      n = y.revisions

      fv : Vertex
      fv = fork (y.terminal r)

      sv : Vertex
      sv = start (length d)

      r-in : r ∈ layout
      r-in = R.out r N.out

      -- the new revision stands next to the forker
      left-new : (n ∷ 0 ∷ []) ⊑ insert_before r n layout
      left-new = cases (eqb r 0)
          (λ e. let z = eqb-true r 0 e in rw z (insert_self 0 n layout (rw z at r-in)))
          (λ e. insert_pair r n 0 layout (R.leftmost r r-in (eqb-false r 0 e)))

      n-new : n ∈ layout → ⊥
      n-new i = omega (arith, (R.back n i).0)

      -- with the fork vertex, and before the start vertex
      terminals : ℕ → ℕ
      terminals = changed y.terminal r (length d)

      forked : Linked (fv ∷ d) layout terminals y.start_of
      forked = linked_fork d layout y.terminal y.start_of R.linked r r-in

      start-on : (s : ℕ) → fork_vertex (sv ∷ fv ∷ d) (terminals s) ≡ fork_vertex (fv ∷ d) (terminals s)
      start-on s = tabulate-older fork_step none sv (fv ∷ d) (terminals s) (on-bound d fv y.terminal terminal-low r s)

  -- b, which is not the main revision, leaves
  module _ (b : ℕ) (n : b ≡ 0 → ⊥) where
    gone : (s : ℕ) → s ∈ remove b layout → s ≡ b → ⊥
    gone s i e = remove_gone b layout R.linked.inv.distinct (Memᴰ.cast (sym e) i)

    leave-out : (s : ℕ) → IsOut y s × (s ≡ b → ⊥) → s ∈ remove b layout
    leave-out s p = remove-keep b s layout p.1 (R.out s p.0)

    leave-back : (s : ℕ) → s ∈ remove b layout → (s < y.revisions) × (changed y.joined b true s ≡ false)
    leave-back s i = let o = R.back s (remove_back b s layout i) in (o.0, changed-other y.joined b true s (gone s i) ∙ o.1)

    leave-left : (s : ℕ) → s ∈ remove b layout → (s ≡ 0 → ⊥) → (s ∷ 0 ∷ []) ⊑ remove b layout
    leave-left s i z =
        remove_sub b (s ∷ 0 ∷ []) layout (R.leftmost s (remove_back b s layout i) z)
        (λ j. either (Memᴰ.cases_cons j) (λ e. gone s i (sym e)) (λ k. n (Memᴰ.eq_of_singleton k)))

  pub real-join : (a b : ℕ) → CanJoin y a b → Real (join_into y a b) (remove b layout)
  real-join a b H = record {
    linked = linked-join d layout y.terminal y.start_of R.linked a b (R.out a H.out_a) (R.out b H.out_b) may;
    out = λ s o. leave-out b H.not_main s (joined_out y a b s o);
    back = leave-back b H.not_main;
    leftmost = leave-left b H.not_main;
    forks = forks-on (join (y.terminal a) (y.terminal b)) a refl;
    main = fork-stays (join (y.terminal a) (y.terminal b)) a refl 0 ∙ R.main;
    starts_low = λ s. omega (arith, R.starts_low s);
    forks_low = λ s. omega (arith, R.forks_low s);
  }
    where
      may : May d y.terminal y.start_of a b
      may = record { outside = H.start_unseen; at = y.fork_of b; start_of = R.forks b H.out_b.0 H.not_main; leads = H.fork_seen }

  pub real-drop : (r : ℕ) → CanDrop y r → (r ≡ 0 → ⊥) → own_events d (y.terminal r) ≡ [] → Real (drop_at y r) (remove r layout)
  real-drop r D n empty = record {
    linked = linked_drop d layout y.terminal y.start_of R.linked r (R.leftmost r (R.out r D.out) n) empty;
    out = λ s o. leave-out r n s (dropped_out y r s o);
    back = leave-back r n;
    leftmost = leave-left r n;
    forks = R.forks;
    main = R.main;
    starts_low = R.starts_low;
    forks_low = R.forks_low;
  }
