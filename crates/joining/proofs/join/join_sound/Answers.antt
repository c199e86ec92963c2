-- `joining::join::join_sound` meets its contract: the checks, then the work. Assumes nothing.
use Rattle.std.proofs.lemmas.Result.{err_from_is_err_and}
use mathlib.Core.Path.{sym, ◌∙◌}
use Rattle.table.specs.Halves.{low}
use Rattle.table.specs.Found.{on_ok}
use Rattle.table.proofs.Halves.{low-length}
use Rattle.table.proofs.Calls.{join_by}
use Rattle.forking.proofs.Calls.{same_taken}
use Rattle.joining.proofs.join.join_sound.Goals as goal

pub check_join-requires : goal.check_join-requires
check_join-requires c = low-length c.args.t.now c.requires.1

pub returns-in_err-a : goal.returns-in_err-a
unfolding low on_ok
returns-in_err-a c =
    let s = c.args in
    let p = err_from_is_err_and c.from_residual.result c.from_residual.ensures.1 in
    rw (p.1, p.2) (join_by s.t.now c.requires.0 s.joiner s.joinee _ (sym c.check_join.ensures.0 ∙ c.in_err-a.was))

pub join_lower-value-requires : goal.join_lower-value-requires
join_lower-value-requires c =
    let i = rw c.in_ok-a.was at c.check_join.ensures.1 in
    (c.requires.1, c.requires.2, i.0, i.1)

pub returns : goal.returns
unfolding low on_ok
returns c =
    let s = c.args in
    same_taken _ _ _ _ c.join_lower-value.ensures.1 c.join_lower-value.ensures.0
    ∙ join_by s.t.now c.requires.0 s.joiner s.joinee _ (sym c.check_join.ensures.0 ∙ c.in_ok-a.was)
