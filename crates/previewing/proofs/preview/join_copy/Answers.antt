-- `previewing::preview::join_copy` meets its contract: the lower half is copied, and joined there. Assumes nothing.
use mathlib.Core.Bool.{true}
use mathlib.Core.Path.{◌≡◌, sym, subst, ◌∙◌, ap}
use Rattle.cells.specs.Range.{in_range}
use Rattle.cells.specs.Steps.{join_bytes}
use Rattle.table.specs.Halves.{low}
use Rattle.previewing.proofs.preview.join_copy.Goals as goal

pub join-requires : goal.join-requires
unfolding low
join-requires c =
    (c.copy.auto.t ∙ c.requires.2, subst (λ d. in_range d ≡ true) (sym c.copy.ensures) c.requires.1, c.requires.3, c.requires.4)

pub returns : goal.returns
unfolding low
returns c =
    let s = c.args in
    c.join.ensures.1 ∙ ap (λ d. join_bytes d s.a.0 s.b.0) c.copy.ensures
