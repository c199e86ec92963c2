-- `querying::query::query_sound` meets its contract: the checks, then the work. Assumes nothing.
use mathlib.Core.Path.{sym, ◌∙◌}
use Rattle.std.proofs.lemmas.Result.{err_from_is_err_and}
use Rattle.table.specs.Found.{on_ok}
use Rattle.querying.proofs.Calls.{query-by, query-answered}
use Rattle.querying.proofs.query.query_sound.Goals as goal

pub returns-in_err-c : goal.returns-in_err-c
unfolding on_ok
returns-in_err-c c =
    let s = c.args in
    let p = err_from_is_err_and c.from_residual.result c.from_residual.ensures.1 in
    rw (p.1, p.2) (query-by s.t.now c.requires.0 s.client s.revision s.bib _ (sym c.check_query.ensures.0 ∙ c.in_err-c.was))

pub standing_at-standing-requires : goal.standing_at-standing-requires
standing_at-standing-requires c =
    let i = rw c.in_ok-c.was at c.check_query.ensures.1 in
    (c.requires.1, c.requires.2, i.1)

pub record-requires : goal.record-requires
record-requires c =
    let i = rw c.in_ok-c.was at c.check_query.ensures.1 in
    (c.requires.1, i.0, i.1)

pub returns : goal.returns
returns c =
    let s = c.args in
    query-answered s.t.now c.requires.0 s.client s.revision s.bib c.check_query.result c.check_query.ensures.0 _ _ c.in_ok-c.was c.tell.ensures c.record.ensures c.standing_at-standing.ensures
