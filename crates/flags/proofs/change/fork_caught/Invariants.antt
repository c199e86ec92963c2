-- `flags::change::fork_caught` meets its contract: the rows up to `x` are stored. Assumes nothing.
use Prim.Native.Nat.{◌≤◌}
use mathlib.Core.Bool.{cond}
use mathlib.Core.Path.{◌≡◌}
use lib.ListN.{length, take}
use Rattle.cells.specs.Flags.{flag_at, flag_of, row_bytes}
use Rattle.cells.specs.Tables.{tab}
use Rattle.flags.proofs.change.fork_caught.Given as goal

abbrev pub invariant-loop-x : goal.invariant-loop-x
invariant-loop-x l = (l.x ≤ 16) × (length l.z ≡ 16) × (take l.x l.z ≡ tab (λ i. row_bytes 8 (λ y. cond (flag_at l.column y) (flag_of l.caught i l.parent.0) (flag_of l.caught i y))) l.x)
