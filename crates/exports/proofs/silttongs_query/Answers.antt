-- `exports::silttongs_query` meets its contract: it returns the answer of its call. Assumes nothing.
use Rattle.exports.proofs.Returned.{gives_state}
use Rattle.exports.proofs.silttongs_query.Goals as goal

pub returns : goal.returns
returns c = gives_state c.pack_reply.ensures _ c.from.ensures c.query-a.ensures
