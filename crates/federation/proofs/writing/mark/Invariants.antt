-- The call that `federation::writing::mark` passes on. Assumes nothing.
use Rattle.desk.specs.Calls.{Mark}
use Rattle.federation.proofs.writing.mark.Given as goal

abbrev pub ghost-on_table : goal.ghost-on_table
ghost-on_table a = Mark a.step.0 a.step.1.now
