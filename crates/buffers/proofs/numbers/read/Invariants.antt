-- `buffers::numbers::read` meets its contract: the number of the bytes from i on, one byte more at each turn. Assumes nothing.
use Prim.Native.Nat.{◌^◌, ◌-◌, ◌<◌}
use mathlib.Core.Path.{◌≡◌}
use lib.ListN.{length, drop}
use Rattle.buffers.specs.Numbers.{number}
use Rattle.buffers.proofs.numbers.read.Given as goal

abbrev pub invariant-loop-i : goal.invariant-loop-i
invariant-loop-i l = (l.value ≡ number (drop l.i l.p)) × (l.value < 256 ^ (length l.p - l.i))
