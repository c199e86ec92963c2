-- `events::transactions::close` meets its contract: the writes in a row. Assumes nothing.
use Rattle.cells.specs.Decode.{cells}
use Rattle.events.proofs.Writes.{close-done}
use Rattle.events.proofs.transactions.close.Goals as goal

pub returns : goal.returns
unfolding cells
returns c =
    let s = c.args in
    close-done s.d.now c.requires.0 _ _ s.c.0 c.settled_after-settled.result c.settled_after-settled.ensures.0 c.opened.ensures c.settled.ensures
