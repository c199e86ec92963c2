-- `ranges::range::check_range` meets its contract: the test decides. Assumes nothing.
use Rattle.ranges.specs.Answers.{range_check}
use Rattle.ranges.proofs.range.check_range.Goals as goal

pub returns-then-in_range : goal.returns-then-in_range
unfolding range_check
returns-then-in_range c = rw (← c.in_range.ensures, c.if-in_range.true)

pub returns : goal.returns
unfolding range_check
returns c = rw (← c.in_range.ensures, c.if-in_range.false)
