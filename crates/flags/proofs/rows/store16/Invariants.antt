-- `flags::rows::store16` meets its contract: the rows up to `x` are stored. Assumes nothing.
use Prim.Native.Nat.{◌*◌, ◌≤◌}
use mathlib.Core.Path.{◌≡◌}
use lib.ListN.{length, take}
use Rattle.cells.specs.Flags.{flag_of, pack}
use Rattle.flags.proofs.rows.store16.Given as goal

abbrev pub invariant-loop-x : goal.invariant-loop-x
invariant-loop-x l = (l.x ≤ 16) × (length l.t ≡ length l.initial.t) × (take (8 * l.x) l.t ≡ pack l.x (flag_of l.s))
