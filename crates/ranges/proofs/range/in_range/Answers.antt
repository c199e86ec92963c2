-- `ranges::range::in_range` meets its contract: all pieces. Assumes nothing.
use mathlib.Core.Bool.{◌&&◌}
use mathlib.Core.Path.{ap₂}
use Rattle.cells.specs.Range.{in_range}
use Rattle.ranges.proofs.range.in_range.Goals as goal

pub returns : goal.returns
unfolding in_range
returns c = ap₂ ◌&&◌ c.records_in.ensures (ap₂ ◌&&◌ c.places_in.ensures c.singles_in.ensures)
