-- `buffers::numbers::read` meets its contract: the number of the bytes from i on, one byte more at each turn. Assumes nothing.
use Prim.Native.Nat.{◌^◌, ◌-◌, ◌<◌}
use mathlib.Core.Path.{◌≡◌, sym, ◌∙◌, ap, subst}
use native.Mathlib.Nat.{one-le-pow}
use native.Mathlib.Omega.{arith}
use lib.ListN.{length, drop}
use Rattle.buffers.specs.Numbers.{number}
use Rattle.buffers.proofs.Widths.{number_end, number_more, bound_more, bound_four}
use Rattle.buffers.proofs.numbers.read.Goals as goal

pub loop-i-init : goal.loop-i-init
loop-i-init c = let p = c.args.p.now in (sym (number_end p), omega (arith, one-le-pow (length p - length p) 256 (omega arith)))

pub overflow_mul-value : goal.overflow_mul-value
overflow_mul-value c =
    let l = c.loop-i in
    omega (arith, bound_four (length c.args.p.now - l.i) (omega arith))

pub overflow_add-value : goal.overflow_add-value
overflow_add-value c =
    let l = c.loop-i in
    omega (arith, bound_four (length c.args.p.now - l.i) (omega arith))

pub loop-i-preserved : goal.loop-i-preserved
loop-i-preserved c =
    let p = c.args.p.now in
    let l = c.loop-i in
    (rw (c.from.ensures, l.invariant.0) (sym (number_more p l.i (omega arith) (omega arith))), bound_more (length p) l.i _ l.value (omega arith) (omega arith) (omega arith) l.invariant.1)

pub returns : goal.returns
returns c =
    let p = c.args.p.now in
    let l = c.loop-i in
    let e : l.i ≡ 0 = omega arith in
    let w : length p - l.i ≡ length p = omega arith in
    (l.invariant.0 ∙ ap (λ k. number (drop k p)) e, subst (λ k. l.value < 256 ^ k) w l.invariant.1)
