-- `order::visible::place_of` meets its contract: r is in no place before `j`. Assumes nothing.
use mathlib.Core.Path.{◌≡◌, ◌∙◌, refl, sym}
use native.Mathlib.Omega.{arith}
use borrow.Author.Rules.{rules}
use borrow.Author.Tests.{eqb-false, eqb-true}
use Rattle.cells.specs.Cells.{outs}
use Rattle.cells.specs.Decode.{cells}
use Rattle.cells.proofs.Range.{ranges}
use Rattle.order.proofs.Behind.{outs_at, outs-length, sought_end, sought_found, sought_more}
use Rattle.order.proofs.visible.place_of.Goals as goal

pub loop-j-init : goal.loop-j-init
loop-j-init c =
    let r = ranges c.args.d.now c.requires.1 in
    (search rules, c.out-n.ensures.0, rw c.out-n.ensures.0 r.most_out, refl)

pub returns-then-eq : goal.returns-then-eq
returns-then-eq c =
    let s = c.args in
    let k = cells s.d.now in
    let l = c.loop-j in
    let n = outs-length s.d.now c.requires.0 (ranges s.d.now c.requires.1).most_out in
    (omega arith, sought_found s.r.0 (outs k) l.j (omega arith) (outs_at k l.j (omega arith) ∙ sym c.at_place-x.ensures.0 ∙ eqb-true _ _ (sym c.eq.ensures ∙ c.if-eq.true)) l.invariant.3)

pub loop-j-preserved : goal.loop-j-preserved
loop-j-preserved c =
    let s = c.args in
    let k = cells s.d.now in
    let l = c.loop-j in
    let n = outs-length s.d.now c.requires.0 (ranges s.d.now c.requires.1).most_out in
    (omega arith, l.invariant.1, l.invariant.2, sought_more s.r.0 (outs k) l.j (omega arith) (λ e. eqb-false _ _ (sym c.eq.ensures ∙ c.if-eq.false) (c.at_place-x.ensures.0 ∙ sym (outs_at k l.j (omega arith)) ∙ e)) l.invariant.3)

pub returns : goal.returns
returns c =
    let s = c.args in
    let k = cells s.d.now in
    let l = c.loop-j in
    let n = outs-length s.d.now c.requires.0 (ranges s.d.now c.requires.1).most_out in
    let e : l.j ≡ c.out-n.result = omega arith in
    (omega arith, sought_end s.r.0 (outs k) c.out-n.result (omega arith) (rw e at l.invariant.3))
