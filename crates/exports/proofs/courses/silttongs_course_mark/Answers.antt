-- `exports::courses::silttongs_course_mark` meets its contract: it returns the answer of the call on four tables. Assumes nothing.
use Rattle.exports.proofs.Four.{gives-four}
use Rattle.exports.proofs.courses.silttongs_course_mark.Goals as goal

pub returns : goal.returns
returns c =
    gives-four _ _ _ c.pack_reply.ensures c.mark.ensures
