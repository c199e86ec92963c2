-- `marking::mark::mark_sound` meets its contract: the checks, then the work. Assumes nothing.
use Rattle.std.proofs.lemmas.Result.{err_from_is_err_and}
use mathlib.Core.Path.{sym, ◌∙◌}
use Rattle.table.specs.Halves.{low}
use Rattle.table.specs.Found.{on_ok}
use Rattle.table.proofs.Halves.{low-length}
use Rattle.forking.proofs.Calls.{same_taken}
use Rattle.marking.proofs.Calls.{mark_by}
use Rattle.marking.proofs.mark.mark_sound.Goals as goal

pub check_mark-requires : goal.check_mark-requires
unfolding low
check_mark-requires c =
    (low-length c.args.t.now c.requires.1, c.requires.2)

pub returns-in_err-p : goal.returns-in_err-p
unfolding low on_ok
returns-in_err-p c =
    let s = c.args in
    let p = err_from_is_err_and c.from_residual.result c.from_residual.ensures.1 in
    rw (p.1, p.2) (mark_by s.t.now c.requires.0 s.revision s.name.now _ (sym c.check_mark.ensures.0 ∙ c.in_err-p.was))

pub start_marked-requires : goal.start_marked-requires
unfolding low
start_marked-requires c =
    let i = rw c.in_ok-p.was at c.check_mark.ensures.1 in
    (c.requires.1, c.requires.2, i.0, i.1, i.2, i.3)

pub returns : goal.returns
unfolding low on_ok
returns c =
    let s = c.args in
    same_taken _ _ _ _ c.start_marked.ensures c.from.ensures
    ∙ mark_by s.t.now c.requires.0 s.revision s.name.now _ (sym c.check_mark.ensures.0 ∙ c.in_ok-p.was)
