-- `events::record::update` meets its contract: the update is appended, and its transaction is open. Assumes nothing.
use Rattle.events.proofs.Writes.{update-done}
use Rattle.events.proofs.record.update.Goals as goal

pub returns : goal.returns
returns c =
    let s = c.args in
    (c.append-u.ensures.0, update-done s.d.now c.requires.0 _ _ s.c.0 s.r.0 c.requires.2 c.append-u.ensures.1 c.«open».ensures)
