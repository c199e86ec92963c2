-- `listing::list::list_sound` meets its contract: the checks, then the end. Assumes nothing.
use Rattle.std.proofs.lemmas.Result.{err_from_is_err_and}
use mathlib.Core.Path.{sym, ◌∙◌}
use Rattle.table.specs.Halves.{low}
use Rattle.table.specs.Found.{on_ok}
use Rattle.table.proofs.Checks.{idle_in}
use Rattle.listing.proofs.Calls.{list_by}
use Rattle.listing.proofs.list.list_sound.Goals as goal

pub returns-in_err-r : goal.returns-in_err-r
unfolding low on_ok
returns-in_err-r c =
    let s = c.args in
    let p = err_from_is_err_and c.from_residual.result c.from_residual.ensures.1 in
    rw (p.1, p.2) (list_by s.t.now c.requires.0 s.revision s.sheet.now _ (sym c.check_idle.ensures ∙ c.in_err-r.was))

pub show-requires : goal.show-requires
unfolding low
show-requires c =
    (c.requires.1, c.requires.2, idle_in _ _ _ (sym c.check_idle.ensures ∙ c.in_ok-r.was))

pub returns : goal.returns
unfolding low on_ok
returns c =
    let s = c.args in
    c.show.ensures
    ∙ list_by s.t.now c.requires.0 s.revision s.sheet.now _ (sym c.check_idle.ensures ∙ c.in_ok-r.was)
