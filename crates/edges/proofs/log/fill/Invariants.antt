-- The loop of `fill`: no more are taken than there were turns. Assumes nothing.
use Rattle.std.proofs.Common.{◌≤◌}
use Rattle.edges.proofs.log.fill.Given as goal

abbrev pub invariant-loop-i : goal.invariant-loop-i
invariant-loop-i l = l.taken ≤ l.i
