-- `exports::silttongs_list` meets its contract: it returns the answer of its call. Assumes nothing.
use Rattle.exports.proofs.Returned.{gives}
use Rattle.exports.proofs.silttongs_list.Goals as goal

pub returns : goal.returns
returns c = gives c.pack_reply.ensures _ c.from.ensures c.list-a.ensures
