-- 02, U8: after a join, on every content in range, a number is left for a fork.
use Prim.Native.Nat.{ℕ, ◌<◌}
use mathlib.Core.Bool.{false}
use mathlib.Core.Path.{◌≡◌, ◌∙◌, ap}
use mathlib.Core.List.{List}
use native.Mathlib.Omega.{arith}
use borrow.Author.Tests.{lt-ltb}
use Rattle.cells.specs.Sizes.{revisions}
use Rattle.cells.specs.Decode.{cells}
use Rattle.cells.specs.Checks.{none_left}
use Rattle.cells.specs.CellSteps.{one_fewer}
use Rattle.cells.specs.Steps.{join_bytes}
use Rattle.cells.proofs.Decoded.{join-decoded}
use Rattle.cells.proofs.Range.{ranges}
use Rattle.cells.proofs.Stays.{Lower}
use Rattle.cells.proofs.Stops.{fewer_less}

pub join-leaves : (d : List ℕ) → Lower d → (a b : ℕ) → a < revisions → b < revisions → none_left (cells (join_bytes d a b)) ≡ false
join-leaves d L a b al bl =
    ap none_left (join-decoded d L a b al bl) ∙ rw (lt-ltb (one_fewer (cells d).out) revisions (fewer_less (cells d).out revisions (ranges d L.ranged).most_out (omega arith)))
