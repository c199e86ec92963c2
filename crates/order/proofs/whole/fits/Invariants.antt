-- `order::whole::fits` meets its contract: what the lists from place `i` on have is to go into what is left. Assumes nothing.
use Prim.Native.Nat.{◌+◌, ◌≤◌}
use mathlib.Core.Path.{◌≡◌}
use lib.ListN.{drop}
use Rattle.cells.specs.Cells.{outs}
use Rattle.cells.specs.Decode.{cells}
use Rattle.order.specs.Counts.{counts}
use Rattle.order.proofs.whole.fits.Given as goal

abbrev pub invariant-loop-i : goal.invariant-loop-i
invariant-loop-i l =
    (l.n ≡ (cells l.d).out) × (l.left ≤ l.initial.left) × (counts (cells l.d) (drop l.i (outs (cells l.d))) + l.initial.left ≡ l.left + counts (cells l.d) (drop (l.j + 1) (outs (cells l.d))))
