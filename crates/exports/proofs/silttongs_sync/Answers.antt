-- `exports::silttongs_sync` meets its contract: it returns the answer of its call. Assumes nothing.
use Rattle.exports.proofs.Returned.{gives}
use Rattle.exports.proofs.silttongs_sync.Goals as goal

pub returns : goal.returns
returns c = (gives c.pack_reply.ensures _ c.from.ensures c.sync-a.ensures.0, c.sync-a.ensures.1, c.sync-a.ensures.2)
