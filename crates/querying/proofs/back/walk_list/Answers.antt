-- `querying::back::walk_list` meets its contract: after each run those kept, with those left, stand for all. Assumes nothing.
use mathlib.Core.Path.{◌≡◌, ◌∙◌, ap, refl}
use native.Mathlib.Omega.{arith}
use lib.ListN.{drop}
use Rattle.std.proofs.Common.{Continue, Break}
use Rattle.std.specs.ControlFlow.{control_flow_from_branch}
use Rattle.cells.proofs.Range.{ranges}
use Rattle.entries.specs.Entries.{entry_at}
use Rattle.entries.proofs.Walked.{stands-first, stands_on}
use Rattle.querying.specs.Left.{left}
use Rattle.querying.proofs.Walks.{left-none, left-own}
use Rattle.querying.proofs.back.walk_list.Goals as goal

pub loop-i-init : goal.loop-i-init
loop-i-init c =
    let s = c.args in
    let r = ranges s.d.now c.requires.1 in
    let u = c.last-u.result in
    let i = c.count-i.result in (
      omega arith,
      rw c.last-u.ensures.0 (r.last s.x.0 c.requires.4),
      omega arith,
      omega arith,
      refl,
      stands-first (entry_at s.h.now) s.s.bib (left s.d.now s.s.r.0 s.s.base u i) (drop s.from s.out.now),
    )

pub returns-in_err-w : goal.returns-in_err-w
returns-in_err-w c =
    let s = c.args in
    let l = c.loop-i in
    let broke : c.run.result ≡ Break c.in_err-w.field-0.0 = c.branch-w.ensures ∙ ap control_flow_from_branch c.in_err-w.is in
    let w = rw broke at c.run.ensures in
    let n = c.count-i.ensures.0 in
    let done = stands_on (entry_at s.h.now) s.s.bib l.invariant.5 w.2 in
    rw c.from_residual.ensures
    (record { low = omega (arith, w.0); few = omega (arith, w.1); stands = left-own s.d.now s.h.now s.s.r.0 s.s.base s.s.bib s.x.0 _ _ _ c.last-u.ensures.0 n done })

pub loop-i-preserved : goal.loop-i-preserved
loop-i-preserved c =
    let l = c.loop-i in
    let s = c.args in
    let goes : c.run.result ≡ Continue c.in_ok-w.w = c.branch-w.ensures ∙ ap control_flow_from_branch c.in_ok-w.is in
    let w = rw goes at c.run.ensures in
    (omega (arith, w.1), w.0, omega (arith, w.2), omega (arith, w.3), c.run.auto.out ∙ l.invariant.4, stands_on (entry_at s.h.now) s.s.bib l.invariant.5 w.4)

pub returns : goal.returns
returns c =
    let s = c.args in
    let l = c.loop-i in
    let n = c.count-i.ensures.0 in
    let ended = left-none s.d.now s.h.now s.s.r.0 s.s.base s.s.bib l.u l.i (omega arith) l.invariant.5 in
    record { low = l.invariant.2; few = omega arith; stands = left-own s.d.now s.h.now s.s.r.0 s.s.base s.s.bib s.x.0 _ _ _ c.last-u.ensures.0 n ended }
