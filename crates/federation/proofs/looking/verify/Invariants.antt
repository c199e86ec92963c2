-- The look that `federation::looking::verify` passes on. Assumes nothing.
use Rattle.desk.specs.Calls.{Verify}
use Rattle.federation.proofs.looking.verify.Given as goal

abbrev pub ghost-looks : goal.ghost-looks
ghost-looks a = Verify a.step.0.now
