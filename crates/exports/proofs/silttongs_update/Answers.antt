-- `exports::silttongs_update` meets its contract: it returns the answer of its call. Assumes nothing.
use Rattle.exports.proofs.Returned.{gives}
use Rattle.exports.proofs.silttongs_update.Goals as goal

pub returns : goal.returns
returns c = gives c.pack_reply.ensures _ c.from.ensures c.update-a.ensures
