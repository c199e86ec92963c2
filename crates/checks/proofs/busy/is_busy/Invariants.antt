-- `checks::busy::is_busy` meets its contract: no client below `x` has r open. Assumes nothing.
use Prim.Native.Nat.{◌≤◌, ℕ}
use mathlib.Core.Bool.{Bool, false}
use mathlib.Core.Path.{◌≡◌}
use mathlib.Core.List.{List}
use lib.Dec.{eqb}
use Rattle.lists.specs.Sums.{any_below}
use Rattle.cells.specs.Decode.{cells}
use Rattle.checks.proofs.busy.is_busy.Given as goal

-- client y has r open
abbrev pub on : List ℕ → ℕ → ℕ → Bool
on d r y = eqb ((cells d).opened y) r

abbrev pub invariant-loop-x : goal.invariant-loop-x
invariant-loop-x l = (l.x ≤ 16) × (any_below l.x (on l.d l.r.0) ≡ false)
