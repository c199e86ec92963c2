-- After every run of accepted steps the settled list is what the main revision shows of closed transactions, and further steps lengthen it by what they bring.
use mathlib.Core.Bool.{Bool, false, true}
use mathlib.Core.Path.{◌∙◌, ◌≡◌, ap, refl}
use mathlib.Core.Option.{none, some}
use mathlib.Core.List.{List, [], ◌++◌, ◌∷◌}
use native.Mathlib.Omega.{arith}
use lib.ListN.{drop}
use Rattle.lists.proofs.Sublists.{only_same}
use Rattle.diagram.specs.Accepted.{Accepted, AcceptedFrom}
use Rattle.diagram.specs.Closed.{ClosedShown}
use Rattle.diagram.specs.Day.{Day}
use Rattle.diagram.specs.Steps.{Drop, Event, Fork, Join, Step, Yield, run, run_from}
use Rattle.machine.specs.Machine.{Machine, fresh_machine, machine_from}
use Rattle.cells.specs.Sizes.{main}
use Rattle.cells.specs.Cells.{Cells, brought, settled_own}
use Rattle.cells.proofs.Settled.{since_none}
use Rattle.following.specs.Reached.{cells_after, cells_from, step_cells}
use Rattle.following.proofs.Cells.Brought.{goes_on, run_on}
use Rattle.following.proofs.Cells.Closed.{settled-shown}
use Rattle.following.proofs.Cells.Kept.{Kept}
use Rattle.following.proofs.Cells.Laid.{laid}
use Rattle.following.proofs.Follow.{kept_from, kept_run}

kept-shown : (y : Day) (m : Machine) (k : Cells) → Kept y m k → ClosedShown y main (settled_own k)
kept-shown y m k K = settled-shown y m k K.agree (laid y m K.agree K.named K.marks) K.represents K.settled

pub run-shown : (single : Bool) (ss : List Step) → Accepted ss → ClosedShown (run ss) main (settled_own (cells_after single ss))
run-shown single ss P = kept-shown (run ss) (machine_from fresh_machine ss) (cells_after single ss) (kept_run single ss P)

-- steps that neither close a transaction nor join
abbrev pub Quiet : List Step → Type 0
Quiet [] = Unit {0}
Quiet (Event c r u ∷ ss) = Quiet ss
Quiet (Yield c ∷ ss) = ⊥
Quiet (Fork r name ∷ ss) = Quiet ss
Quiet (Join a b ∷ ss) = ⊥
Quiet (Drop r ∷ ss) = Quiet ss

quiet_from : (ss : List Step) (y : Day) (k : Cells) → Quiet ss → (cells_from y k ss).settled ≡ k.settled
unfolding cells_from step_cells
quiet_from [] y k Q = refl
quiet_from (Event c r true ∷ ss) y k Q = quiet_from ss _ _ Q
quiet_from (Event c r false ∷ ss) y k Q = quiet_from ss _ _ Q
quiet_from (Fork r none ∷ ss) y k Q = quiet_from ss _ _ Q
quiet_from (Fork r (some w) ∷ ss) y k Q = quiet_from ss _ _ Q
quiet_from (Yield c ∷ ss) y k Q = absurd Q
quiet_from (Join a b ∷ ss) y k Q = absurd Q
quiet_from (Drop r ∷ ss) y k Q = quiet_from ss _ _ Q

-- more steps after a run: the cells k' show what the main revision shows after them
module _ (single : Bool) (ss more : List Step) (P : Accepted ss) (A : AcceptedFrom (run ss) more) (k' : Cells) (C : ClosedShown (run_from (run ss) more) main (settled_own k')) where
  abbrev k : Cells
  k = cells_after single ss

  K : Kept (run ss) (machine_from fresh_machine ss) k
  K = kept_run single ss P

  reached : settled_own k' ≡ settled_own (cells_from (run ss) k more)
  reached = only_same C (kept-shown _ _ _ (kept_from more (run ss) (machine_from fresh_machine ss) k A K))

  pub lengthens : settled_own k' ≡ settled_own k ++ brought k k'
  lengthens =
      let g = run_on more (run ss) (machine_from fresh_machine ss) k A K in
      goes_on (run ss) (machine_from fresh_machine ss) k K k' (g.0, reached ∙ g.1)

  pub quiet-brings : Quiet more → brought k k' ≡ []
  quiet-brings Q =
      let e = quiet_from more (run ss) k Q in
      ap (drop k.settled) reached ∙ since_none k.settled (cells_from (run ss) k more) (omega arith)
