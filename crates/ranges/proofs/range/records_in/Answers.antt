-- `ranges::range::records_in` meets its contract: each part in its place. Assumes nothing.
use mathlib.Core.Bool.{◌&&◌}
use mathlib.Core.Path.{ap₂}
use Rattle.cells.specs.Parts.{offset, size, split}
use Rattle.ranges.proofs.range.records_in.Goals as goal

pub returns : goal.returns
unfolding offset size split
returns c =
    ap₂ ◌&&◌ c.bytes_below-state.ensures
    (ap₂ ◌&&◌ c.bytes_below-used.ensures
    (ap₂ ◌&&◌ c.words_below-last.ensures
    (ap₂ ◌&&◌ c.words_below-first.ensures
    (ap₂ ◌&&◌ c.words_below-count.ensures
    c.words_below-base.ensures))))
