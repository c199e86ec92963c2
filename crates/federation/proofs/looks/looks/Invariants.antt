-- The ghost value of `federation::looks::looks`: the look is the caller's. Assumes nothing.
use Rattle.federation.proofs.looks.looks.Given as goal

abbrev pub ghost-on_beside : goal.ghost-on_beside
ghost-on_beside g a = g.look
