-- `forking::fork::fork_sound` meets its contract: the checks, then the work. Assumes nothing.
use mathlib.Core.Path.{sym, ◌∙◌}
use Rattle.std.proofs.lemmas.Result.{err_from_is_err_and}
use Rattle.table.specs.Halves.{low}
use Rattle.table.specs.Found.{on_ok}
use Rattle.table.proofs.Halves.{low-length}
use Rattle.forking.proofs.Calls.{fork_by, same_taken}
use Rattle.forking.proofs.fork.fork_sound.Goals as goal

pub check_fork-requires : goal.check_fork-requires
unfolding low
check_fork-requires c =
    (low-length c.args.t.now c.requires.1, c.requires.2)

pub returns-in_err-p : goal.returns-in_err-p
unfolding low on_ok
returns-in_err-p c =
    let s = c.args in
    let p = err_from_is_err_and c.from_residual.result c.from_residual.ensures.1 in
    rw (p.1, p.2) (fork_by s.t.now c.requires.0 s.revision _ (sym c.check_fork.ensures.0 ∙ c.in_err-p.was))

pub start-requires : goal.start-requires
unfolding low
start-requires c =
    let i = rw c.in_ok-p.was at c.check_fork.ensures.1 in
    (c.requires.1, c.requires.2, i.0, i.1, i.2)

pub returns : goal.returns
unfolding low on_ok
returns c =
    let s = c.args in
    same_taken _ _ _ _ c.start.ensures c.from.ensures
    ∙ fork_by s.t.now c.requires.0 s.revision _ (sym c.check_fork.ensures.0 ∙ c.in_ok-p.was)
