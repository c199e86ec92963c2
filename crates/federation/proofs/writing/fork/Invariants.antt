-- The call that `federation::writing::fork` passes on. Assumes nothing.
use Rattle.desk.specs.Calls.{Fork}
use Rattle.federation.proofs.writing.fork.Given as goal

abbrev pub ghost-on_table : goal.ghost-on_table
ghost-on_table a = Fork a.step.0
