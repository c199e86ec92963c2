-- The cell `settled` on a day, and that the settled list is what the main revision's terminal shows of closed transactions.
use Prim.Native.Nat.{◌+◌, ◌<◌, ◌≤◌, suc, zero, ℕ}
use mathlib.Core.Bool.{Bool, false, false≢true, true}
use mathlib.Core.Path.{◌∙◌, ◌≡◌, ap, refl, subst, sym}
use mathlib.Core.Logic.{◌⊎◌, inl, inr}
use mathlib.Core.Option.{Option, none, some}
use mathlib.Core.List.{[], ◌++◌, ◌∷◌}
use native.Mathlib.Omega.{arith}
use lib.Dec.{eqb}
use lib.ListN.{length, length-append, take}
use lib.Seq.{take_all, take_at}
use borrow.Author.Tests.{eqb-false, eqb-true, ne_eqb}
use Rattle.lists.specs.Lists.{◌∈◌, changed}
use Rattle.lists.specs.Sums.{any_below}
use Rattle.lists.proofs.Cases.{cases, either, or_cases}
use Rattle.diagram.specs.Accepted.{accepted}
use Rattle.diagram.specs.Arbitration.{events_of}
use Rattle.diagram.specs.Checks.{busy, is_on}
use Rattle.diagram.specs.Closed.{ClosedShown}
use Rattle.diagram.specs.Day.{Day, IsBusy, IsIdle, IsOut, number_of}
use Rattle.diagram.specs.Effects.{entry, numbers}
use Rattle.diagram.specs.Views.{own, view}
use Rattle.diagram.specs.Sizes.{client_limit}
use Rattle.diagram.specs.Steps.{Drop, Event, Fork, Join, Step, Yield, after, enter, fork_at, new_update, yield}
use Rattle.diagram.proofs.Days.Moves.{CanEnter, can-enter, can-join, can-yield}
use Rattle.diagram.proofs.Order.Closed.{closed-busy, closed-idle}
use Rattle.diagram.proofs.Order.Growth.{Fine, busy_idle}
use Rattle.machine.specs.Machine.{Machine, machine_after, revision_of}
use Rattle.machine.proofs.Follow.Agrees.{Agree}
use Rattle.machine.proofs.Follow.Shown.{follows}
use Rattle.cells.specs.Sizes.{clients, closed, main}
use Rattle.cells.specs.Cells as Cells
use Rattle.cells.specs.Cells.{Cells, settled_own}
use Rattle.cells.specs.CellSteps.{close_settled, join_count}
use Rattle.cells.proofs.Chain.{chain_length}
use Rattle.following.specs.Reached.{by_number, step_cells}
use Rattle.following.proofs.Cells.Laid.{Laid, same_number}
use Rattle.following.proofs.Cells.Represents.{Represents, count-main, open_cell, own-main}
use Rattle.following.proofs.Cells.Settled.{Settled, drops, enters-elsewhere, enters-main, forks, joins-elsewhere, joins-main, yields-elsewhere, yields-main}

-- a test that some number below n passes, and that number
some_below : (n : ℕ) (f : ℕ → Bool) → any_below n f ≡ true → (x : ℕ) × (f x ≡ true)
unfolding any_below
some_below zero f e = absurd (false≢true e)
some_below (suc n) f e = either (or_cases _ _ e) (λ a. (n, a)) (λ a. some_below n f a)

module _ (y : Day) (m : Machine) (k : Cells) (A : Agree y m) (L : Laid y m) (h : Represents y m k) (S : Settled y k.settled (k.count main)) where
  abbrev F : Fine y
  F = A.flagged.fine

  there : (r : ℕ) → IsOut y r → r ∈ m.layout
  there r o = (follows y m A).laid r o

  pub main_out : IsOut y main
  main_out = L.out main h.main_out

  -- a number is the main revision's only if the revision is
  is-main : (r : ℕ) → IsOut y r → eqb (number_of y r) main ≡ eqb r main
  is-main r o = ap (eqb (number_of y r)) (sym h.main_number) ∙ same_number y m L r main (there r o) h.main_out

  -- how long the main revision's list is
  counted-now : k.count main ≡ length (m.own main)
  counted-now = count-main y m k h

  -- an event: one update more where it is one, on the main revision
  entered : (c r : ℕ) (u : Bool) → accepted y (Event c r u) ≡ true → CanEnter y c r → (r ≡ main → ⊥) ⊎ (r ≡ main) → (all : ℕ)
      → ((r ≡ main → ⊥) → all ≡ k.count main) → (r ≡ main → all ≡ k.count main + length (entry (new_update y u))) → Settled (enter y c r u) k.settled all
  entered c r u e E (inl away) all other here = subst (λ n. Settled (enter y c r u) k.settled n) (sym (other away)) (enters-elsewhere y F _ _ S c r u E away)
  entered c r u e E (inr is) all other here = subst (λ n. Settled (enter y c r u) k.settled n) (sym (here is)) (enters-main y F _ _ S c r u E is)

  where-on : (r : ℕ) → (r ≡ main → ⊥) ⊎ (r ≡ main)
  where-on r = cases (eqb r main) (λ e. inr (eqb-true r main e)) (λ e. inl (eqb-false r main e))

  -- another number's count
  elsewhere : (r v : ℕ) → IsOut y r → (r ≡ main → ⊥) → changed k.count (number_of y r) v main ≡ k.count main
  elsewhere r v o away = rw (ne_eqb main (number_of y r) (λ q. eqb-false (number_of y r) main (is-main r o ∙ ne_eqb r main away) (sym q)))

  one-longer : (c r : ℕ) → r ≡ main → length ((machine_after m (Event c r true)).own main) ≡ k.count main + 1
  unfolding machine_after
  one-longer c r is =
      ap (λ x. length (changed m.own x (m.own x ++ (m.updates ∷ [])) main)) is
      ∙ length-append (m.own main) (m.updates ∷ [])
      ∙ ap (λ n. n + 1) (sym counted-now)

  yielded : (c : ℕ) → c < clients → (q : Option ℕ) → y.open_by c ≡ q → Settled (yield y c q) (close_settled k c) (k.count main)
  yielded c cl none e =
      let o : k.opened c ≡ closed = h.opened_is c cl ∙ ap (open_cell (number_of y)) (A.same_open_on c ∙ ap (revision_of y.transaction) e) in
      rw o S
  yielded c cl (some t) e =
      let r = (y.transaction t).revision in
      let o : k.opened c ≡ number_of y r = h.opened_is c cl ∙ ap (open_cell (number_of y)) (A.same_open_on c ∙ ap (revision_of y.transaction) e) in
      let i = is-main r (F.sound.runs c t e).out in
      cases (eqb r main)
      (λ w. rw (o, i, w) (yields-main y F _ _ S A.numbered c t e (eqb-true r main w)))
      (λ w. rw (o, i, w) (yields-elsewhere y F _ _ S A.numbered c t e (eqb-false r main w)))

  not_new : length (changed m.own m.revisions [] main) ≡ k.count main
  not_new = let l = main_out.0 in let e = L.same_revisions in rw (ne_eqb main m.revisions (λ q. omega arith)) (sym counted-now)

  pub settled-after : (s : Step) → accepted y s ≡ true → Represents (after y s) (machine_after m s) (step_cells k (by_number y s))
      → Settled (after y s) (step_cells k (by_number y s)).settled ((step_cells k (by_number y s)).count main)
  unfolding step_cells machine_after after client_limit
  settled-after (Event c r true) e h' =
      let E = can-enter y c r true e in
      entered c r true e E (where-on r) _ (elsewhere r _ E.out) (λ is. count-main _ _ _ h' ∙ one-longer c r is)
  settled-after (Event c r false) e h' =
      let E = can-enter y c r false e in
      entered c r false e E (where-on r) (k.count main) (λ away. refl) (λ is. omega arith)
  settled-after (Yield c) e h' = yielded c (can-yield y c e) (y.open_by c) refl
  settled-after (Fork r none) e h' = subst (λ n. Settled (fork_at y r none) k.settled n) (sym (count-main _ _ _ h' ∙ not_new)) (forks y F _ _ S r none)
  settled-after (Fork r (some w)) e h' = subst (λ n. Settled (fork_at y r (some w)) k.settled n) (sym (count-main _ _ _ h' ∙ not_new)) (forks y F _ _ S r (some w))
  settled-after (Join a b) e h' =
      let J = can-join y a b e in
      cases (eqb a main)
      (λ w. let is : number_of y a ≡ main = ap (number_of y) (eqb-true a main w) ∙ h.main_number in rw is (joins-main y F _ _ S a b J (eqb-true a main w) _))
      (λ w.
      let away = eqb-false a main w in
      rw (is-main a J.out_a ∙ w, elsewhere a (join_count k (number_of y a) (number_of y b)) J.out_a away) (joins-elsewhere y F _ _ S a b J))
  settled-after (Drop r) e h' = drops y F _ _ S r

  -- the settled list is what the terminal shows of closed transactions
  shows : m.own main ≡ view y.diagram (y.terminal main)
  shows = ap (λ l. l ++ m.own main) (sym h.main_inherits) ∙ (follows y m (A)).same_view main main_out

  alone : view y.diagram (y.terminal main) ≡ own y.diagram (y.terminal main)
  alone = sym shows ∙ A.same_own main main_out

  pub listed : Cells.own k main ≡ view y.diagram (y.terminal main)
  listed = own-main y m k h ∙ shows

  pub long : length (Cells.own k main) ≡ k.count main
  long = chain_length k.link (k.last main) (k.count main)

  -- the main revision is busy with one transaction, or idle
  decided : IsBusy y main ⊎ IsIdle y main
  unfolding busy
  decided =
      cases (busy y main)
      (λ e. let p = some_below client_limit _ e in inl (by p.0 (y.open_by p.0) refl p.1))
      (λ e. inr ((busy_idle y F main).0 e))
    where
      by : (c : ℕ) (q : Option ℕ) → y.open_by c ≡ q → is_on y q main ≡ true → IsBusy y main
      by c none e on = absurd (false≢true on)
      by c (some t) e on = (c, t, e, eqb-true (y.transaction t).revision main on)

  pub settled-few : k.settled ≤ k.count main
  settled-few = either decided (λ (c, t, e, on). let n = S.busy c t e on in omega arith) (λ i. let n = S.idle i in omega arith)

  pub settled-shown : ClosedShown y main (settled_own k)
  settled-shown = either decided
      (λ (c, t, e, on).
      let p = closed-busy y F A.numbered main main_out c t e on alone in
      let w = p.0 in
      let O = numbers y.diagram (events_of y t) in
      let whole : Cells.own k main ≡ w ++ O = listed ∙ p.1 in
      let size : length w ≡ k.settled = omega (arith, ap length whole ∙ length-append w O, long, S.busy c t e on) in
      subst (λ l. ClosedShown y main l) (sym (ap (take k.settled) whole ∙ take_at w O k.settled size)) p.2)
      (λ i.
      let n = S.idle i in
      subst (λ l. ClosedShown y main l) (sym (take_all k.settled (Cells.own k main) (omega (arith, long)) ∙ listed)) (closed-idle y F A.numbered main main_out i alone))
