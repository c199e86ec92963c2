-- `querying::back::walk_behind` meets its contract: those kept, with what the lists from place `i` on have, stand for all. Assumes
-- nothing.
use Prim.Native.Nat.{◌+◌}
use mathlib.Core.Path.{◌≡◌, ◌∙◌, ap, refl}
use mathlib.Core.List.{[]}
use native.Mathlib.Omega.{arith}
use lib.ListN.{drop}
use Rattle.std.proofs.Common.{Continue, Break}
use Rattle.std.specs.ControlFlow.{control_flow_from_branch}
use Rattle.lists.specs.Arranged.{flat_back}
use Rattle.cells.specs.Cells.{outs}
use Rattle.cells.specs.Decode.{cells}
use Rattle.cells.specs.Order.{inherited}
use Rattle.cells.proofs.Range.{ranges}
use Rattle.order.specs.Counts.{counts}
use Rattle.order.proofs.Behind.{from_place}
use Rattle.entries.specs.Entries.{entry_at}
use Rattle.entries.proofs.Walked.{stands-first, stands-done}
use Rattle.querying.proofs.Walks.{lists-more}
use Rattle.querying.proofs.back.walk_behind.Goals as goal

pub loop-i-init : goal.loop-i-init
loop-i-init c =
    let s = c.args in
    let k = cells s.d.now in
    (c.out-n.ensures.0, omega arith, omega arith, refl, stands-first (entry_at s.h.now) s.bib (flat_back (inherited k s.r.0) (drop (s.j + 1) (outs k))) (drop s.from s.out.now))

pub at_place-x-requires : goal.at_place-x-requires
at_place-x-requires c =
    let o = (ranges c.args.d.now c.requires.1).most_out in
    (c.requires.0, c.requires.1, omega arith)

pub walk_list-requires : goal.walk_list-requires
walk_list-requires c =
    let s = c.args in
    let l = c.loop-i in
    let x = c.at_place-x.ensures in
    let e = ap (counts (cells s.d.now)) (from_place s.d.now c.requires.0 c.requires.1 l.i _ (omega arith) x.0) in
    (c.requires.0, c.requires.1, c.requires.2, c.requires.3, x.1, omega arith, omega arith)

pub returns-in_err-p : goal.returns-in_err-p
returns-in_err-p c =
    let s = c.args in
    let l = c.loop-i in
    let x = c.at_place-x.ensures.0 in
    let broke : c.walk_list.result ≡ Break c.in_err-p.field-0.0 = c.branch-p.ensures ∙ ap control_flow_from_branch c.in_err-p.is in
    let w = rw broke at c.walk_list.ensures in
    let e = ap (counts (cells s.d.now)) (from_place s.d.now c.requires.0 c.requires.1 l.i _ (omega arith) x) in
    let more = lists-more s.d.now s.h.now s.r.0 s.bib c.requires.0 c.requires.1 l.i _ _ l.p _ l.out _ _ _ (omega arith) x c.base_in-base.ensures l.invariant.4 w in
    rw c.from_residual.ensures
    (record { low = omega (arith, w.low); few = omega (arith, w.few); stands = stands-done (entry_at s.h.now) s.bib [] more })

pub loop-i-preserved : goal.loop-i-preserved
loop-i-preserved c =
    let s = c.args in
    let l = c.loop-i in
    let x = c.at_place-x.ensures.0 in
    let goes : c.walk_list.result ≡ Continue c.in_ok-p.p = c.branch-p.ensures ∙ ap control_flow_from_branch c.in_ok-p.is in
    let w = rw goes at c.walk_list.ensures in
    let e = ap (counts (cells s.d.now)) (from_place s.d.now c.requires.0 c.requires.1 l.i _ (omega arith) x) in
    let more = lists-more s.d.now s.h.now s.r.0 s.bib c.requires.0 c.requires.1 l.i _ _ l.p _ l.out _ _ _ (omega arith) x c.base_in-base.ensures l.invariant.4 w in
    (l.invariant.0, omega (arith, w.low), omega (arith, w.few), c.walk_list.auto.out ∙ l.invariant.3, more)
