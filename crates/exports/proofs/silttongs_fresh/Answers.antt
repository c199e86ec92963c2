-- `exports::silttongs_fresh` meets its contract: it returns the answer of its call. Assumes nothing.
use Rattle.exports.proofs.Returned.{gives}
use Rattle.exports.proofs.silttongs_fresh.Goals as goal

pub returns : goal.returns
returns c = (gives c.pack_reply.ensures _ c.from.ensures c.fresh-a.ensures.0, c.fresh-a.ensures.1)
