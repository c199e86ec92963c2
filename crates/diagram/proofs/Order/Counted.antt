-- After every run of accepted steps, every update taken is the own update of one revision that is out (02, U1).
use Prim.Native.Nat.{◌+◌, ◌<◌, ℕ}
use mathlib.Core.Bool.{Bool, false, true}
use mathlib.Core.Path.{◌≡◌, refl}
use mathlib.Core.Option.{Option, none, some}
use mathlib.Core.List.{List, [], ◌∷◌}
use native.Mathlib.Omega.{arith}
use lib.ListN.{length, length-append}
use lib.Dec.{eqb}
use borrow.Author.Tests.{eq-eqb, eqb-true, ne_eqb}
use Rattle.diagram.proofs.Days.Moves.{CanDrop, CanJoin, Moves, drops_of, enters, forks_at, joins_into, step-moves, yields}
use Rattle.diagram.proofs.Days.Dropping.{unwritten}
use Rattle.diagram.proofs.Graph.Tables.{tabulate-newest, tabulate-older}
use Rattle.diagram.proofs.Order.Growth.{Fine, fine_fresh}
use Rattle.diagram.proofs.Order.Runs.{along, fine_step}
use Rattle.diagram.specs.Summed.{OwnAddsUp, own_if_out}
use Rattle.diagram.specs.Day.{Day, fresh}
use Rattle.diagram.specs.Diagram.{Vertex, event, fork, join, start}
use Rattle.diagram.specs.Effects.{entry, tabulate}
use Rattle.diagram.specs.Views.{own, own_step}
use Rattle.diagram.specs.Steps.{Step, after, drop_at, enter, fork_at, join_into, new_update, run, yield}
use Rattle.diagram.specs.Accepted.{Accepted, accepted}
use Rattle.lists.specs.Names.{Name}
use Rattle.lists.proofs.Cases.{cases}
use Rattle.lists.proofs.Changed.{changed-other, changed_same}
use Rattle.lists.proofs.Sums.{sum-changed, sum_same}
use Rattle.lists.specs.Lists.{changed}
use Rattle.lists.specs.Sums.{sum_below}

-- each step: an update is one more on its revision, a join puts the joinee's own behind the joiner's
module _ (y : Day) (F : Fine y) where
  -- what a new vertex leaves of a revision whose terminal is an older one
  older : (v : Vertex) (x : ℕ) → own (v ∷ y.diagram) (y.terminal x) ≡ own y.diagram (y.terminal x)
  older v x = tabulate-older own_step [] v y.diagram (y.terminal x) (F.sound.real.linked.bound x)

  abbrev f : ℕ → ℕ
  f = own_if_out y

  enter-adds : (c r : ℕ) (u : Bool) → r < y.revisions → y.joined r ≡ false → OwnAddsUp y → OwnAddsUp (enter y c r u)
  enter-adds c r u l o h =
      let s = sum-changed y.revisions r f (own_if_out (enter y c r u)) l (λ x k n. rw (ne_eqb x r n, older v x)) in
      let at-r : own_if_out (enter y c r u) r ≡ f r + length (entry (new_update y u)) = rw (o, eq-eqb r r refl, tabulate-newest own_step [] v y.diagram) (length-append (own y.diagram (y.terminal r)) (entry (new_update y u))) in
      by u s at-r
    where
      v : Vertex
      v = event (y.terminal r) c (new_update y u)

      by : (u : Bool) → sum_below y.revisions (own_if_out (enter y c r u)) + f r ≡ sum_below y.revisions f + own_if_out (enter y c r u) r
          → own_if_out (enter y c r u) r ≡ f r + length (entry (new_update y u)) → OwnAddsUp (enter y c r u)
      by true s e = omega arith
      by false s e = omega arith

  fork-adds : (r : ℕ) (name : Option Name) → OwnAddsUp y → OwnAddsUp (fork_at y r name)
  fork-adds r name h =
      let s = sum_same y.revisions (own_if_out (fork_at y r name)) f same in
      let new : own_if_out (fork_at y r name) y.revisions ≡ 0 = rw (eq-eqb y.revisions y.revisions refl, tabulate-newest own_step [] sv (fv ∷ y.diagram)) in
      omega arith
    where
      fv : Vertex
      fv = fork (y.terminal r)

      sv : Vertex
      sv = start (length y.diagram)

      same : (x : ℕ) → x < y.revisions → own_if_out (fork_at y r name) x ≡ f x
      same x l =
          let b = F.sound.real.linked.bound x in
          let new = ne_eqb x y.revisions (λ q. omega arith) in
          cases (eqb x r)
          (λ e. rw (new, e, tabulate-older own_step [] sv (fv ∷ y.diagram) (length y.diagram) (omega arith), tabulate-newest own_step [] fv y.diagram, eqb-true x r e))
          (λ e. rw (new, e, tabulate-older own_step [] sv (fv ∷ y.diagram) (y.terminal x) (omega arith), older fv x))

  join-adds : (a b : ℕ) → CanJoin y a b → OwnAddsUp y → OwnAddsUp (join_into y a b)
  join-adds a b H h =
      let s = sum-changed y.revisions a f (changed f a (f a + f b)) H.out_a.0 (λ x k n. changed-other f a (f a + f b) x n) in
      let t = sum-changed y.revisions b (changed f a (f a + f b)) (own_if_out (join_into y a b)) H.out_b.0 others in
      let at_a = changed_same f a (f a + f b) in
      let at_b = changed-other f a (f a + f b) b H.not_self in
      let gone : own_if_out (join_into y a b) b ≡ 0 = rw (eq-eqb b b refl) in
      omega arith
    where
      jv : Vertex
      jv = join (y.terminal a) (y.terminal b)

      others : (x : ℕ) → x < y.revisions → (x ≡ b → ⊥) → own_if_out (join_into y a b) x ≡ changed f a (f a + f b) x
      others x k n =
          cases (eqb x a)
          (λ e.
          let z = eqb-true x a e in
          rw (ne_eqb x b n, e, tabulate-newest own_step [] jv y.diagram, z, H.out_a.1, H.out_b.1) (length-append (own y.diagram (y.terminal a)) (own y.diagram (y.terminal b))))
          (λ e. rw (ne_eqb x b n, e, older jv x))

  -- a mark has nothing of its own
  drop-adds : (r : ℕ) → CanDrop y r → OwnAddsUp y → OwnAddsUp (drop_at y r)
  drop-adds r D h =
      let s = sum-changed y.revisions r f (own_if_out (drop_at y r)) D.out.0 (λ x k n. rw (ne_eqb x r n)) in
      let had : f r ≡ 0 = rw (D.out.1, unwritten y F.layout F.hold F.sound r D.is_mark D.out) in
      let gone : own_if_out (drop_at y r) r ≡ 0 = rw (eq-eqb r r refl) in
      omega arith

  moves-add : (z : Day) → Moves y z → OwnAddsUp y → OwnAddsUp z
  moves-add z (enters c r u E) h = enter-adds c r u E.out.0 E.out.1 h
  moves-add z (yields c l) h = by (y.open_by c)
    where
      by : (q : Option ℕ) → OwnAddsUp (yield y c q)
      by none = h
      by (some t) = h
  moves-add z (forks_at r name N) h = fork-adds r name h
  moves-add z (joins_into a b H) h = join-adds a b H h
  moves-add z (drops_of r D) h = drop-adds r D h

pub own-adds_up : (ss : List Step) → Accepted ss → OwnAddsUp (run ss)
unfolding run tabulate
own-adds_up ss A = (along Both keep ss fresh A (fine_fresh, fresh-adds)).1
  where
    Both : Day → Type 0
    Both y = Fine y × OwnAddsUp y

    fresh-adds : OwnAddsUp fresh
    fresh-adds = refl

    keep : (y : Day) (s : Step) → accepted y s ≡ true → Both y → Both (after y s)
    keep y s e h = (fine_step y s e h.0, moves-add y h.0 (after y s) (step-moves y s e) h.1)
