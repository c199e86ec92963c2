-- `previewing::preview::preview_sound` meets its contract: the checks, then the end. Assumes nothing.
use mathlib.Core.Path.{sym, ◌∙◌}
use Rattle.std.proofs.lemmas.Result.{err_from_is_err_and}
use Rattle.table.specs.Halves.{low}
use Rattle.table.specs.Found.{on_ok}
use Rattle.table.proofs.Halves.{low-length}
use Rattle.previewing.proofs.Foreseen.{preview-by}
use Rattle.previewing.proofs.preview.preview_sound.Goals as goal

pub check_preview-requires : goal.check_preview-requires
check_preview-requires c = low-length c.args.t.now c.requires.1

pub returns-in_err-a : goal.returns-in_err-a
unfolding low on_ok
returns-in_err-a c =
    let s = c.args in
    let p = err_from_is_err_and c.from_residual.result c.from_residual.ensures.1 in
    rw (p.1, p.2) (preview-by s.t.now s.joiner s.joinee s.bib c.requires.0 _ (sym c.check_preview.ensures.0 ∙ c.in_err-a.was))

pub foresee-requires : goal.foresee-requires
foresee-requires c =
    let i = rw c.in_ok-a.was at c.check_preview.ensures.1 in
    (c.requires.1, c.requires.2, i.0, i.1, i.2)

pub returns : goal.returns
unfolding low on_ok
returns c =
    let s = c.args in
    c.foresee.ensures
    ∙ preview-by s.t.now s.joiner s.joinee s.bib c.requires.0 _ (sym c.check_preview.ensures.0 ∙ c.in_ok-a.was)
