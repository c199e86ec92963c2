-- `order::visible::add_left` meets its contract: what r inherited from the revisions at place `i` and behind is there.
-- Assumes nothing.
use Prim.Native.Nat.{◌+◌, ◌-◌}
use mathlib.Core.Path.{◌∙◌, ◌≡◌, ap, sym}
use mathlib.Core.Logic.{inl, inr, ⊎_elim}
use native.Mathlib.Omega.{arith}
use lib.ListN.{drop}
use borrow.Author.Rules.{rules}
use Rattle.lists.specs.Arranged.{flat_back}
use Rattle.cells.specs.Cells.{flagged, outs, own}
use Rattle.cells.specs.Decode.{cells}
use Rattle.cells.specs.Order.{inherited, picks}
use Rattle.cells.proofs.Range.{ranges}
use Rattle.order.proofs.Behind.{block_more, no_block, outs_at, outs-length}
use Rattle.order.proofs.Laws.{added_as, added-bounds, added_none, added_then}
use Rattle.order.proofs.visible.add_left.Goals as goal

pub loop-i-init : goal.loop-i-init
loop-i-init c =
    let s = c.args in
    let k = cells s.d.now in
    let o = c.out-i.ensures.0 in
    let n = outs-length s.d.now c.requires.0 (ranges s.d.now c.requires.1).most_out in
    (omega arith, inl o, search rules, c.requires.4, c.requires.5, added_as (no_block (inherited k s.r.0) (outs k) c.out-i.result (omega arith)) (added_none s.out.now c.requires.5 0 (omega arith)))

pub at_place-x-requires : goal.at_place-x-requires
at_place-x-requires c =
    let r = (ranges c.args.d.now c.requires.1).most_out in (c.requires.0, c.requires.1, omega arith)

pub add_some-m-requires : goal.add_some-m-requires
add_some-m-requires c =
    let l = c.loop-i in
    (c.requires.0, c.requires.1, c.requires.2, c.at_place-x.ensures.1, l.invariant.3, l.invariant.4, l.invariant.2)

pub loop-i-preserved : goal.loop-i-preserved
loop-i-preserved c =
    let s = c.args in
    let k = cells s.d.now in
    let l = c.loop-i in
    let o = (ranges s.d.now c.requires.1).most_out in
    let n = outs-length s.d.now c.requires.0 o in
    let here = c.at_place-x.result.0 in
    let e : picks c.base_in-base.result (flagged k s.r.0) (own k here) ≡ inherited k s.r.0 here = ap (λ b. picks b (flagged k s.r.0) (own k here)) c.base_in-base.ensures in
    let a = added_as e c.add_some-m.ensures in
    let w = added-bounds l.out l.invariant.4 l.m _ _ _ l.invariant.2 a in
    let x = c.at_place-x.ensures.0 ∙ sym (outs_at k (l.i - 1) (omega arith)) in
    let more = block_more (inherited k s.r.0) (outs k) l.i here (omega arith) (omega arith) x in
    let both = added_then s.out.now c.requires.5 0 _ l.out l.m _ _ _ (omega arith) l.invariant.5 a in
    (omega arith, inr (omega arith), w.1, c.add_some-m.auto.room ∙ l.invariant.3, w.2, added_as more both)

pub returns : goal.returns
returns c =
    let s = c.args in
    let k = cells s.d.now in
    let l = c.loop-i in
    let o = (ranges s.d.now c.requires.1).most_out in
    let n = outs-length s.d.now c.requires.0 o in
    let f = inherited k s.r.0 in
    ⊎_elim
    (λ e. added_as (sym (no_block f (outs k) l.i (omega arith)) ∙ no_block f (outs k) (s.j + 1) (omega arith)) l.invariant.5)
    (λ g. let e : l.i ≡ s.j + 1 = omega arith in added_as (ap (λ i. flat_back f (drop i (outs k))) e) l.invariant.5)
    l.invariant.1
