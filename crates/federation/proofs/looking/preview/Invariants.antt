-- The look that `federation::looking::preview` passes on. Assumes nothing.
use Rattle.desk.specs.Calls.{Preview}
use Rattle.federation.proofs.looking.preview.Given as goal

abbrev pub ghost-looks : goal.ghost-looks
ghost-looks a = Preview a.step.0 a.step.1 a.step.2
