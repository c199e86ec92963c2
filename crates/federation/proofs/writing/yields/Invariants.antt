-- The call that `federation::writing::yields` passes on. Assumes nothing.
use Rattle.desk.specs.Calls.{Yield}
use Rattle.federation.proofs.writing.yields.Given as goal

abbrev pub ghost-on_table : goal.ghost-on_table
ghost-on_table a = Yield a.step.0 a.board.now
