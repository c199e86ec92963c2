-- `packing::pack::state_number` meets its contract: each arm knows its state. Assumes nothing.
use native.Mathlib.Omega.{arith}
use Rattle.packing.specs.Packed.{state_number}
use Rattle.packing.proofs.pack.state_number.Goals as goal

pub returns-in-Neither : goal.returns-in-Neither
unfolding state_number
returns-in-Neither c = (rw c.in-Neither.is, omega arith)

pub returns-in-Timed : goal.returns-in-Timed
unfolding state_number
returns-in-Timed c = (rw c.in-Timed.is, omega arith)

pub returns-in-Struck : goal.returns-in-Struck
unfolding state_number
returns-in-Struck c = (rw c.in-Struck.is, omega arith)
