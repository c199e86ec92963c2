-- `exports::silttongs_join` meets its contract: it returns the answer of its call. Assumes nothing.
use Rattle.exports.proofs.Returned.{gives}
use Rattle.exports.proofs.silttongs_join.Goals as goal

pub returns : goal.returns
returns c = (gives c.pack_reply.ensures _ c.from.ensures c.join-a.ensures.0, c.join-a.ensures.1, c.join-a.ensures.2)
