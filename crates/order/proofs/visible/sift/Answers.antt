-- `order::visible::sift` meets its contract: of the first `i` entries those that r inherited are there. Assumes nothing.
use native.Mathlib.Omega.{arith}
use borrow.Author.Rules.{rules}
use Rattle.cells.specs.Cells.{flagged}
use Rattle.cells.specs.Decode.{cells}
use Rattle.order.proofs.Laws.{added-bounds, sift-end, sift-more, sift-start}
use Rattle.order.proofs.visible.sift.Goals as goal

pub loop-i-init : goal.loop-i-init
loop-i-init c =
    let s = c.args in
    (search rules, search rules, search rules, sift-start s.out.now c.requires.2 s.n c.requires.3 s.base (flagged (cells s.d.now) s.r.0) s.list.now)

pub loop-i-preserved : goal.loop-i-preserved
loop-i-preserved c =
    let s = c.args in
    let l = c.loop-i in
    let b = added-bounds l.out l.invariant.2 l.m _ _ _ l.invariant.1 c.offer-m.ensures in
    (omega arith, b.1, b.2, sift-more s.out.now c.requires.2 s.n c.requires.3 s.base (flagged (cells s.d.now) s.r.0) s.list.now l.i l.out l.m _ _ (omega arith) l.invariant.3 c.offer-m.ensures)

pub returns : goal.returns
returns c =
    let s = c.args in
    let l = c.loop-i in
    sift-end s.out.now c.requires.2 s.n c.requires.3 s.base (flagged (cells s.d.now) s.r.0) s.list.now l.i l.out l.m (omega arith) l.invariant.3
