-- `ranges::range::queue_in` meets its contract: the flag says whether the places so far are in range. Assumes nothing.
use mathlib.Core.Bool.{◌&&◌}
use mathlib.Core.Path.{◌≡◌}
use lib.Dec.{ltb}
use Rattle.cells.specs.Tables.{every}
use Rattle.cells.specs.Words.{byte}
use Rattle.ranges.proofs.range.queue_in.Given as goal

abbrev pub invariant-loop-n : goal.invariant-loop-n
invariant-loop-n l = l.ok ≡ every (λ i. ltb 0 (byte l.n-items i) && ltb (byte l.n-items i) 64) l.n-index
