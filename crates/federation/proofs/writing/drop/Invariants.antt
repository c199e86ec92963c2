-- The call that `federation::writing::drop` passes on. Assumes nothing.
use Rattle.desk.specs.Calls.{Drop}
use Rattle.federation.proofs.writing.drop.Given as goal

abbrev pub ghost-on_table : goal.ghost-on_table
ghost-on_table a = Drop a.step.0.now
