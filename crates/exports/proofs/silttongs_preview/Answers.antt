-- `exports::silttongs_preview` meets its contract: it returns the answer of its call. Assumes nothing.
use Rattle.exports.proofs.Returned.{gives-prospect}
use Rattle.exports.proofs.silttongs_preview.Goals as goal

pub returns : goal.returns
returns c = gives-prospect c.pack_reply.ensures c.from.ensures c.preview-p.ensures
