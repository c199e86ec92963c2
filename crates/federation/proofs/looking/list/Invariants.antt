-- The look that `federation::looking::list` passes on. Assumes nothing.
use Rattle.desk.specs.Calls.{Show}
use Rattle.federation.proofs.looking.list.Given as goal

abbrev pub ghost-looks : goal.ghost-looks
ghost-looks a = Show a.step.0 a.sheet.now
