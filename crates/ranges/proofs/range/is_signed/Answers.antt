-- `ranges::range::is_signed` meets its contract: the flag says whether the bytes before `i` are the signature's. Assumes nothing.
use mathlib.Core.Path.{◌≡◌, refl}
use native.Mathlib.Omega.{arith}
use lib.Dec.{eqb}
use borrow.Author.Rules.{rules}
use Rattle.cells.specs.Parts.{offset, signature_part, size, split}
use Rattle.cells.specs.Range.{signature}
use Rattle.cells.specs.Tables.{every}
use Rattle.cells.specs.Words.{byte}
use Rattle.cells.proofs.Parts.{part-byte}
use Rattle.ranges.proofs.Flags.{every-next}
use Rattle.ranges.proofs.range.is_signed.Goals as goal

pub loop-i-init : goal.loop-i-init
unfolding every
loop-i-init c = (search rules, refl, c.signature-s.ensures)

pub loop-i-preserved : goal.loop-i-preserved
unfolding offset size
loop-i-preserved c =
    let l = c.loop-i in
    let d = c.args.d.now in
    (omega arith, every-next (λ j. eqb (byte (split d signature_part) j) (byte signature j)) l.i l.invariant.1 (rw (part-byte d signature_part l.i (omega arith), l.invariant.2)), l.invariant.2)

pub returns : goal.returns
returns c =
    let l = c.loop-i in
    let e : l.i ≡ 8 = omega arith in
    rw e at l.invariant.1
