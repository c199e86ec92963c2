-- `exports::silttongs_yield` meets its contract: it returns the answer of its call. Assumes nothing.
use Rattle.exports.proofs.Returned.{gives}
use Rattle.exports.proofs.silttongs_yield.Goals as goal

pub returns : goal.returns
returns c = (gives c.pack_reply.ensures _ c.from.ensures c.yields-a.ensures.0, c.yields-a.ensures.1)
