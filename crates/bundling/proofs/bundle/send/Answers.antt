-- `bundling::bundle::send` meets its contract: all checks, then the updates and the yield. Assumes nothing.
use Prim.Native.Nat.{◌≤◌}
use mathlib.Core.Path.{sym, subst, ◌∙◌, ap}
use mathlib.Core.List.{◌++◌}
use Rattle.bundles.specs.Packed.{held}
use Rattle.cells.specs.Sizes.{updates}
use Rattle.cells.specs.Steps.{close_bytes}
use Rattle.table.specs.Halves.{high, low}
use Rattle.std.proofs.lemmas.Result.{err_from_is_err_and}
use Rattle.bundling.proofs.Going.{few-taken}
use Rattle.bundling.proofs.Records.{fits-alone, same_check}
use Rattle.bundling.proofs.Sent.{settle-fits, settle-refused}
use Rattle.bundling.proofs.bundle.send.Goals as goal

pub check_sent-requires : goal.check_sent-requires
check_sent-requires c =
    let s = c.args in
    (c.requires.2, subst (λ k. k ≤ updates) (sym c.taken-taken.ensures.0) (few-taken s.t.now s.c.0 s.r.0 c.requires.0))

pub returns-in_err-check_sent : goal.returns-in_err-check_sent
returns-in_err-check_sent c =
    let s = c.args in
    let p = err_from_is_err_and c.from_residual.result c.from_residual.ensures.1 in
    rw (p.1, p.2) (settle-refused s.most s.t.now s.c.0 s.r.0 c.requires.0 (held s.records.now) c.check_sent.result
    (same_check (held s.records.now) s.most _ _ _ c.taken-taken.ensures.0 c.check_sent.ensures) _ c.in_err-check_sent.was)

pub enter_all-requires : goal.enter_all-requires
enter_all-requires c =
    let s = c.args in
    let fits = sym (same_check (held s.records.now) s.most _ _ _ c.taken-taken.ensures.0 c.check_sent.ensures) ∙ c.in_ok-check_sent.was in
    (c.requires.0, fits-alone (held s.records.now) _ s.most fits)

pub returns : goal.returns
returns c =
    let s = c.args in
    settle-fits s.most s.t.now s.c.0 s.r.0 c.requires.0 (held s.records.now) c.check_sent.result
    (same_check (held s.records.now) s.most _ _ _ c.taken-taken.ensures.0 c.check_sent.ensures)
    c.in_ok-check_sent.was
    (c.close.ensures ∙ ap (λ d. close_bytes (low d) s.c.0 ++ high d) c.enter_all.ensures)
    c.taken-taken.ensures.0
