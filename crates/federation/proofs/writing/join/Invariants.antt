-- The call that `federation::writing::join` passes on. Assumes nothing.
use Rattle.desk.specs.Calls.{Join}
use Rattle.federation.proofs.writing.join.Given as goal

abbrev pub ghost-on_table : goal.ghost-on_table
ghost-on_table a = Join a.step.0 a.step.1 a.board.now
