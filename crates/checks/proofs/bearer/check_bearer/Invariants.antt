-- `checks::bearer::check_bearer` meets its contract: no mark from `n` on bears the name. Assumes nothing.
use Prim.Native.Nat.{◌-◌, ◌<◌, ◌≤◌}
use mathlib.Core.Path.{◌≡◌}
use Rattle.cells.specs.Decode.{cells}
use Rattle.cells.specs.Checks.{bearer, bearer_below}
use Rattle.checks.proofs.bearer.check_bearer.Given as goal

abbrev pub invariant-loop-n : goal.invariant-loop-n
invariant-loop-n l = (0 < l.n) × (l.n ≤ 64) × (bearer (cells l.d) l.name ≡ bearer_below (cells l.d) l.name (l.n - 1))
