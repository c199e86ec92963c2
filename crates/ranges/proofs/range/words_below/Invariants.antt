-- `ranges::range::words_below` meets its contract: the flag says whether the words before `i` are below the limit. Assumes nothing.
use Prim.Native.Nat.{◌*◌, ◌≤◌}
use mathlib.Core.Path.{◌≡◌}
use borrow.Rule.Slice.PartMut.{mid_of}
use Rattle.cells.specs.Range.{words_below}
use Rattle.ranges.proofs.range.words_below.Given as goal

abbrev pub invariant-loop-i : goal.invariant-loop-i
invariant-loop-i l = (l.i ≤ l.n) × (l.ok ≡ words_below l.i l.limit (mid_of l.at (2 * l.n) l.d))
