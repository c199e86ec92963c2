-- `exports::silttongs_bill` meets its contract: it returns the answer of its call. Assumes nothing.
use Rattle.exports.proofs.Returned.{gives-answer}
use Rattle.exports.proofs.silttongs_bill.Goals as goal

pub returns : goal.returns
returns c = gives-answer c.pack_reply.ensures c.from.ensures c.bill-a.ensures
