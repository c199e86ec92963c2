-- `previewing::preview::read_on` meets its contract: what is told of the standing. Assumes nothing.
use Rattle.cells.specs.Decode.{cells}
use Rattle.cells.specs.Order.{order}
use Rattle.table.specs.Halves.{high}
use Rattle.querying.proofs.Along.{along-entries}
use Rattle.previewing.proofs.Foreseen.{seen}
use Rattle.previewing.proofs.preview.read_on.Goals as goal

pub returns : goal.returns
unfolding high
returns c =
    let s = c.args in
    seen s.d.now _ c.requires.0 s.a.0 s.bib s.gain c.tell-told.ensures
    (along-entries s.t.now (order (cells s.d.now) s.a.0) s.bib c.standing_on-standing.result c.requires.2 c.standing_on-standing.ensures)
