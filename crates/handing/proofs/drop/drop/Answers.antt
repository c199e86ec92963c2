-- `handing::drop::drop` meets its contract: the writes in a row. Assumes nothing.
use mathlib.Core.Path.{◌∙◌, ap}
use Rattle.cells.specs.CellSteps.{one_fewer}
use Rattle.cells.specs.Decode.{cells}
use Rattle.handing.proofs.Writes.{drop-done}
use Rattle.handing.proofs.drop.drop.Goals as goal

pub returns : goal.returns
unfolding cells
returns c =
    let s = c.args in
    let out = c.one_fewer-out.ensures.0 ∙ ap one_fewer c.out.ensures.0 in
    drop-done s.d.now c.requires.0 _ _ _ _ s.r.0 c.queue_end-place.result c.one_fewer-out.result c.queue_end-place.ensures.0 out
    c.state.ensures c.leave.ensures c.queued.ensures c.out-2.ensures
