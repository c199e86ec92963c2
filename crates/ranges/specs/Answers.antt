-- No claim rests on this file: it serves the code.
-- The answer of the range check: 01, "Codes of the desk". Which code it gives is said where the calls are.
use Rattle.std.specs.Prelude.{ℕ, cond, List}
use Rattle.cells.specs.Range.{in_range}
use Rattle.ranges.specs.declared.range.RangeCheck.{RangeCheck}
use Rattle.ranges.specs.declared.range.RangeCheck.TheVariants as range

-- 1 "a cell is out of its range"
unfoldable pub range_check : List ℕ → RangeCheck
range_check d = cond (in_range d) range.Sound range.Damaged
