-- `revisions::inherit::by_count` meets its contract: the writes in a row. Assumes nothing.
use mathlib.Core.Path.{◌∙◌, ap}
use Rattle.cells.specs.Decode.{cells}
use Rattle.revisions.proofs.Writes.{by-count-done}
use Rattle.revisions.proofs.inherit.by_count.Goals as goal

pub returns : goal.returns
unfolding cells
returns c =
    let s = c.args in
    let count-is = c.count-base.ensures.0 ∙ ap (cells s.d.now).count c.main.ensures in
    by-count-done s.d.now c.requires.0 _ _ _ s.child.0 c.count-base.result count-is c.used.ensures c.base.ensures c.count.ensures
