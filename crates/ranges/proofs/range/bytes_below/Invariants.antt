-- `ranges::range::bytes_below` meets its contract: the flag says whether the bytes so far are below the limit. Assumes nothing.
use mathlib.Core.Path.{◌≡◌}
use Rattle.cells.specs.Range.{bytes_below}
use Rattle.ranges.proofs.range.bytes_below.Given as goal

abbrev pub invariant-loop-b : goal.invariant-loop-b
invariant-loop-b l = l.ok ≡ bytes_below l.b-index l.limit l.b-items
