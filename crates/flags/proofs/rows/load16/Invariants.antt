-- `flags::rows::load16` meets its contract: the rows up to `x` are stored. Assumes nothing.
use Prim.Native.Nat.{◌≤◌}
use mathlib.Core.Path.{◌≡◌}
use lib.ListN.{length, take}
use Rattle.cells.specs.Flags.{flag_in, row_bytes}
use Rattle.cells.specs.Tables.{tab}
use Rattle.flags.proofs.rows.load16.Given as goal

abbrev pub invariant-loop-x : goal.invariant-loop-x
invariant-loop-x l = (l.x ≤ 16) × (length l.s ≡ 16) × (take l.x l.s ≡ tab (λ i. row_bytes 8 (flag_in 8 16 l.t i)) l.x)
