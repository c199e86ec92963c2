-- The call that `federation::writing::update` passes on. Assumes nothing.
use Rattle.desk.specs.Calls.{Update}
use Rattle.federation.proofs.writing.update.Given as goal

abbrev pub ghost-on_table : goal.ghost-on_table
ghost-on_table a = Update a.step.0 a.step.1 a.step.2 a.step.3 a.step.4
