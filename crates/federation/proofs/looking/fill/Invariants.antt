-- The look that `federation::looking::fill` passes on. Assumes nothing.
use Rattle.desk.specs.Calls.{Fill}
use Rattle.federation.proofs.looking.fill.Given as goal

abbrev pub ghost-looks : goal.ghost-looks
ghost-looks a = Fill a.step.0
