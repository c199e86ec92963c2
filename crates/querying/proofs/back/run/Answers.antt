-- `querying::back::run` meets its contract: those kept, with those left, stand for all. Assumes nothing.
use Prim.Native.Nat.{◌-◌}
use mathlib.Core.Path.{◌≡◌, ◌∙◌, ap, refl}
use mathlib.Core.List.{[]}
use native.Mathlib.Omega.{arith}
use lib.ListN.{drop}
use Rattle.std.proofs.Common.{Continue, Break}
use Rattle.std.specs.ControlFlow.{control_flow_from_branch}
use Rattle.cells.specs.Decode.{cells}
use Rattle.entries.specs.Entries.{entry_at}
use Rattle.entries.proofs.Walked.{stands-first, stands-done}
use Rattle.querying.specs.Left.{left}
use Rattle.querying.proofs.Walks.{left-more}
use Rattle.querying.proofs.back.run.Goals as goal

pub loop-i-init : goal.loop-i-init
loop-i-init c =
    let s = c.args in
    (omega arith, c.requires.3, omega arith, omega arith, refl, stands-first (entry_at s.h.now) s.s.bib (left s.d.now s.s.r.0 s.s.base s.at s.n) (drop s.from s.out.now))

pub returns-in_err-p : goal.returns-in_err-p
returns-in_err-p c =
    let s = c.args in
    let l = c.loop-i in
    let broke : c.look.result ≡ Break c.in_err-p.field-0.0 = c.branch-p.ensures ∙ ap control_flow_from_branch c.in_err-p.is in
    let w = rw broke at c.look.ensures in
    let more = left-more s.d.now s.h.now s.s.r.0 s.s.base s.s.bib l.u l.i l.p l.out _ _ _ (omega arith) l.invariant.5 w in
    rw c.from_residual.ensures (omega (arith, w.low), omega (arith, w.few), stands-done (entry_at s.h.now) s.s.bib [] more)

pub returns-then-v-u : goal.returns-then-v-u
returns-then-v-u c =
    let s = c.args in
    let l = c.loop-i in
    let goes : c.look.result ≡ Continue c.in_ok-p.p = c.branch-p.ensures ∙ ap control_flow_from_branch c.in_ok-p.is in
    let w = rw goes at c.look.ensures in
    let b = c.link-v.ensures in
    let more = left-more s.d.now s.h.now s.s.r.0 s.s.base s.s.bib l.u l.i l.p l.out _ _ _ (omega arith) l.invariant.5 w in
    (b.1, omega arith, omega (arith, w.low), omega (arith, w.few), rw b.0 more)

pub loop-i-preserved : goal.loop-i-preserved
loop-i-preserved c =
    let s = c.args in
    let l = c.loop-i in
    let goes : c.look.result ≡ Continue c.in_ok-p.p = c.branch-p.ensures ∙ ap control_flow_from_branch c.in_ok-p.is in
    let w = rw goes at c.look.ensures in
    let b : l.u - 1 ≡ (cells c.args.d.now).link l.u = omega (arith, c.link-v.ensures.0) in
    let more = left-more s.d.now s.h.now s.s.r.0 s.s.base s.s.bib l.u l.i l.p l.out _ _ _ (omega arith) l.invariant.5 w in
    (omega arith, omega arith, omega (arith, w.low), omega (arith, w.few), c.look.auto.out ∙ l.invariant.4, rw b more)
