-- `report::lines::answer_line` meets its contract: each arm knows the answer. Assumes nothing.
use mathlib.Core.Path.{sym}
use Rattle.report.proofs.lines.answer_line.Goals as goal

pub returns-in-Ok : goal.returns-in-Ok
returns-in-Ok c = rw c.in-Ok.is c.line.ensures

pub returns-in-Err : goal.returns-in-Err
returns-in-Err c = rw (c.in-Err.is, sym c.from.ensures) c.line-in-Err.ensures
