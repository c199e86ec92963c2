-- 02, U8: "visible to every box that starts with that sync or after it", by the paths of the day.
use Rattle.std.specs.Prelude.{ℕ, ◌≡◌}
use Rattle.std.proofs.Math.Option.{some}
use Rattle.lists.specs.Lists.{◌∈◌}
use Rattle.diagram.specs.Effects.{number}
use Rattle.diagram.specs.Views.{view}
use Rattle.diagram.specs.Day.{Day}
use Rattle.diagram.specs.Arbitration.{Sees}

-- event e "is visible to" revision r: at its start vertex, and so at each vertex from there on, its terminal (01: line end) among them; and an update
-- stands in what each of these shows, which is what the box lists and what its queries answer by
pub record VisibleTo (y : Day) (r e : ℕ) : Type 0 where
  pub at_start : Sees y (y.start_of r) e
  pub at_end : Sees y (y.terminal r) (y.start_of r)
  pub shown : (x n : ℕ) → Sees y x (y.start_of r) → number y.diagram e ≡ some n → n ∈ view y.diagram x
