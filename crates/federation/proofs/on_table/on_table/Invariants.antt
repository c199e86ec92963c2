-- The ghost value of `federation::on_table::on_table`: the call is the caller's. Assumes nothing.
use Rattle.federation.proofs.on_table.on_table.Given as goal

abbrev pub ghost-on_beside : goal.ghost-on_beside
ghost-on_beside g a = g.call
