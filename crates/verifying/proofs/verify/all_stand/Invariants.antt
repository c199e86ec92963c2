-- `verifying::verify::all_stand` meets its contract: no number passed is out of order. Assumes nothing.
use Prim.Native.Nat.{◌≤◌}
use mathlib.Core.Bool.{false}
use mathlib.Core.Path.{◌≡◌}
use lib.ListN.{length}
use Rattle.lists.specs.Sums.{any_below}
use Rattle.cells.specs.Sizes.{revisions, updates}
use Rattle.cells.specs.Order.{order}
use Rattle.orderfile.specs.Test.{wrong}
use Rattle.orderfile.specs.Checks.{place_at}
use Rattle.table.specs.Halves.{cells_of}
use Rattle.table.specs.Calls.{is_out}
use Rattle.verifying.proofs.verify.all_stand.Given as goal

abbrev pub invariant-loop-n : goal.invariant-loop-n
invariant-loop-n l = (l.n ≤ revisions) × (length l.list ≡ updates) × (any_below l.n (wrong (is_out (cells_of l.t)) (order (cells_of l.t)) (place_at l.places)) ≡ false)
