-- `checks::busy::is_busy_by_other` meets its contract: no other client below `x` has r open. Assumes nothing.
use Prim.Native.Nat.{◌≤◌, ℕ}
use mathlib.Core.Bool.{Bool, false, not, ◌&&◌}
use mathlib.Core.Path.{◌≡◌}
use mathlib.Core.List.{List}
use lib.Dec.{eqb}
use Rattle.lists.specs.Sums.{any_below}
use Rattle.cells.specs.Decode.{cells}
use Rattle.checks.proofs.busy.is_busy_by_other.Given as goal

-- client y, who is not c, has r open
abbrev pub other : List ℕ → ℕ → ℕ → ℕ → Bool
other d c r y = not (eqb y c) && eqb ((cells d).opened y) r

abbrev pub invariant-loop-x : goal.invariant-loop-x
invariant-loop-x l = (l.x ≤ 16) × (any_below l.x (other l.d l.c.0 l.r.0) ≡ false)
