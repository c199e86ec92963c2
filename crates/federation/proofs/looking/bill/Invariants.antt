-- The look that `federation::looking::bill` passes on. Assumes nothing.
use Rattle.desk.specs.Calls.{Bill}
use Rattle.federation.proofs.looking.bill.Given as goal

abbrev pub ghost-looks : goal.ghost-looks
ghost-looks a = Bill a.step.0
