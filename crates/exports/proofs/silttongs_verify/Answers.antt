-- `exports::silttongs_verify` meets its contract: it returns the answer of its call. Assumes nothing.
use Rattle.exports.proofs.Returned.{gives-answer}
use Rattle.exports.proofs.silttongs_verify.Goals as goal

pub returns : goal.returns
returns c = gives-answer c.pack_reply.ensures c.from.ensures c.verify-a.ensures
