-- `flags::change::join_caught` meets its contract: the rows up to `x` are stored. Assumes nothing.
use Prim.Native.Nat.{◌≤◌}
use mathlib.Core.Bool.{◌&&◌, ◌||◌}
use mathlib.Core.Path.{◌≡◌}
use lib.ListN.{length, take}
use Rattle.cells.specs.Flags.{flag_at, flag_of, row_bytes}
use Rattle.cells.specs.Tables.{tab}
use Rattle.flags.proofs.change.join_caught.Given as goal

abbrev pub invariant-loop-x : goal.invariant-loop-x
invariant-loop-x l = (l.x ≤ 16) × (length l.z ≡ 16) × (take l.x l.z ≡ tab (λ i. row_bytes 8 (λ y. flag_of l.caught i y || (flag_of l.caught i l.b.0 && flag_at l.column y))) l.x)
