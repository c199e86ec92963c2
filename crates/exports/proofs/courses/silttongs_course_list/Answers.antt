-- `exports::courses::silttongs_course_list` meets its contract: it returns the answer of the call on four tables. Assumes nothing.
use Rattle.exports.proofs.Four.{gives-sheet}
use Rattle.exports.proofs.courses.silttongs_course_list.Goals as goal

pub returns : goal.returns
returns c =
    gives-sheet c.pack_reply.ensures c.list.ensures
