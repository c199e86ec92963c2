-- `exports::silttongs_fill` meets its contract: it returns the answer of its call. Assumes nothing.
use Rattle.exports.proofs.Returned.{gives-level}
use Rattle.exports.proofs.silttongs_fill.Goals as goal

pub returns : goal.returns
returns c = gives-level c.pack_reply.ensures c.from.ensures c.fill-f.ensures
