-- `events::transactions::open` meets its contract: two parts are written. Assumes nothing.
use Rattle.events.proofs.Writes.{query-done}
use Rattle.events.proofs.transactions.open.Goals as goal

pub returns : goal.returns
returns c =
    let s = c.args in
    query-done s.d.now c.requires.0 _ _ s.c.0 s.r.0 c.wide.result c.requires.1 c.wide.ensures.0 c.caught_only.ensures c.opened.ensures
