-- `ranges::range::singles_in` meets its contract: each part in its place. Assumes nothing.
use mathlib.Core.Bool.{◌&&◌}
use mathlib.Core.Path.{ap₂}
use Rattle.cells.specs.Parts.{offset, size, split}
use Rattle.ranges.proofs.range.singles_in.Goals as goal

pub returns : goal.returns
unfolding offset size split
returns c =
    ap₂ ◌&&◌ c.counters_in-counters.ensures
    (ap₂ ◌&&◌ c.bytes_below-single.ensures
    (ap₂ ◌&&◌ c.words_below-settled.ensures
    c.is_signed.ensures))
