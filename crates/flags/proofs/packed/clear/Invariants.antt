-- `flags::packed::clear` meets its contract: `16 * k` rows are done, and the others as they were. Assumes nothing.
use Prim.Native.Nat.{◌*◌, ◌≤◌}
use mathlib.Core.Path.{◌≡◌}
use mathlib.Core.List.{◌++◌}
use lib.ListN.{drop, length}
use Rattle.cells.specs.Flags.{pack}
use Rattle.flags.proofs.InPlace.{cleared}
use Rattle.flags.proofs.packed.clear.Given as goal

abbrev pub invariant-loop-k : goal.invariant-loop-k
invariant-loop-k l = (l.k ≤ 4) × (length l.t ≡ length l.initial.t) × (l.t ≡ pack (16 * l.k) (cleared l.initial.t l.w) ++ drop (8 * (16 * l.k)) l.initial.t)
