-- The call that `federation::writing::bundle` passes on. Assumes nothing.
use Rattle.desk.specs.Calls.{Bundle, Records}
use Rattle.federation.proofs.writing.bundle.Given as goal

abbrev pub ghost-on_table : goal.ghost-on_table
ghost-on_table a = Bundle a.step.0 a.step.1 (Records a.step.2.now) a.board.now
