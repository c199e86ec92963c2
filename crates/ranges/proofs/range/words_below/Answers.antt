-- `ranges::range::words_below` meets its contract: the flag says whether the words before `i` are below the limit. Assumes nothing.
use Prim.Native.Nat.{◌*◌, ◌+◌}
use mathlib.Core.Path.{◌≡◌, ap, refl}
use native.Mathlib.Omega.{arith}
use lib.Dec.{ltb}
use borrow.Author.Rules.{rules}
use borrow.Rule.Slice.PartMut.{mid_of}
use Rattle.cells.specs.Tables.{every}
use Rattle.cells.specs.Words.{word}
use Rattle.cells.proofs.Parts.{mid_byte}
use Rattle.ranges.proofs.Flags.{every-next}
use Rattle.ranges.proofs.range.words_below.Goals as goal

pub loop-i-init : goal.loop-i-init
unfolding every
loop-i-init c = (search rules, refl)

pub loop-i-preserved : goal.loop-i-preserved
unfolding word
loop-i-preserved c =
    let l = c.loop-i in
    let a = c.args in
    let t = mid_of a.at (2 * a.n) a.d.now in
    let low = mid_byte a.d.now a.at (2 * a.n) (2 * l.i) (omega arith) in
    let high = mid_byte a.d.now a.at (2 * a.n) (2 * l.i + 1) (omega arith) in
    let v : c.from_le_bytes.result ≡ word t l.i = omega (arith, low, high) in
    (omega arith, every-next (λ j. ltb (word t j) a.limit) l.i l.invariant.1 (ap (λ v. ltb v a.limit) v))

pub returns : goal.returns
returns c =
    let l = c.loop-i in
    let e : l.i ≡ c.args.n = omega arith in
    rw e at l.invariant.1
