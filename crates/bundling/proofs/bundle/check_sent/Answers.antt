-- `bundling::bundle::check_sent` meets its contract: no entry before `i` is refused. Assumes nothing.
use mathlib.Core.Path.{sym, ◌∙◌}
use Rattle.std.proofs.lemmas.Result.{err_from_is_err_and}
use native.Mathlib.Omega.{arith}
use Rattle.bundling.proofs.Records.{check-ends}
use Rattle.bundling.proofs.bundle.check_sent.Goals as goal

pub returns-in_err-check_fit : goal.returns-in_err-check_fit
returns-in_err-check_fit c =
    let s = c.args in
    let l = c.loop-i in
    let found = c.check_fit in
    let p = err_from_is_err_and c.from_residual.result c.from_residual.ensures.1 in
    rw (p.1, p.2) (sym c.in_err-check_fit.was ∙ check-ends s.records.now l.i (omega arith) _ c.entry_in-e.result c.entry_in-e.ensures s.taken s.most found.result found.ensures _ c.in_err-check_fit.was ∙ sym l.invariant)
