-- `ranges::range::places_in` meets its contract: each part in its place. Assumes nothing.
use mathlib.Core.Bool.{◌&&◌}
use mathlib.Core.Path.{ap₂}
use Rattle.cells.specs.Parts.{offset, size, split}
use Rattle.ranges.proofs.range.places_in.Goals as goal

pub returns : goal.returns
unfolding offset size split
returns c =
    ap₂ ◌&&◌ c.bytes_below-layout.ensures (ap₂ ◌&&◌ c.queue_in-queue.ensures c.bytes_below-opened.ensures)
