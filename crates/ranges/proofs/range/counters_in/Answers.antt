-- `ranges::range::counters_in` meets its contract: the tests of the three counters. Assumes nothing.
use Rattle.cells.specs.Decode.{cells}
use Rattle.ranges.proofs.range.counters_in.Goals as goal

pub returns : goal.returns
unfolding cells
returns c = rw (c.updates-updates.ensures.0, c.out-out.ensures.0, c.given-given.ensures.0)
