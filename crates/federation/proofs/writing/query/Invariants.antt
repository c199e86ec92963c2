-- The call that `federation::writing::query` passes on. Assumes nothing.
use Rattle.desk.specs.Calls.{Query}
use Rattle.federation.proofs.writing.query.Given as goal

abbrev pub ghost-on_table : goal.ghost-on_table
ghost-on_table a = Query a.step.0 a.step.1 a.step.2
