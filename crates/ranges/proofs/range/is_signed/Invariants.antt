-- `ranges::range::is_signed` meets its contract: the flag says whether the bytes before `i` are the signature's. Assumes nothing.
use Prim.Native.Nat.{◌≤◌}
use mathlib.Core.Path.{◌≡◌}
use lib.Dec.{eqb}
use Rattle.cells.specs.Parts.{signature_part, split}
use Rattle.cells.specs.Range.{signature}
use Rattle.cells.specs.Tables.{every}
use Rattle.cells.specs.Words.{byte}
use Rattle.ranges.proofs.range.is_signed.Given as goal

abbrev pub invariant-loop-i : goal.invariant-loop-i
invariant-loop-i l = (l.i ≤ 8) × (l.ok ≡ every (λ j. eqb (byte (split l.d signature_part) j) (byte signature j)) l.i) × (l.s ≡ signature)
