-- The call that `federation::writing::sync` passes on. Assumes nothing.
use Rattle.desk.specs.Calls.{Sync}
use Rattle.federation.proofs.writing.sync.Given as goal

abbrev pub ghost-on_table : goal.ghost-on_table
ghost-on_table a = Sync a.step.0 a.board.now
