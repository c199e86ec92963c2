-- The loop of `pack`: the records of the first i entries are put. Assumes nothing.
use mathlib.Core.Path.{◌≡◌}
use lib.ListN.{take}
use Rattle.bundles.specs.Packed.{filled}
use Rattle.bundles.proofs.pack.pack.Given as goal

abbrev pub invariant-loop-i : goal.invariant-loop-i
invariant-loop-i l = l.bytes ≡ filled (take l.i l.es)
