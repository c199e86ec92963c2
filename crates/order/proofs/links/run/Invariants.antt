-- `order::links::run` meets its contract: at each turn what is left to do makes the whole with what is done. Assumes nothing.
use Prim.Native.Nat.{◌<◌, ◌≤◌}
use mathlib.Core.Path.{◌≡◌}
use lib.ListN.{length}
use Rattle.cells.specs.Sizes.{updates}
use Rattle.order.specs.Chain.{with_chain}
use Rattle.order.proofs.links.run.Given as goal

abbrev pub invariant-loop-i : goal.invariant-loop-i
invariant-loop-i l = (l.m ≤ l.i) × (l.i ≤ l.n) × (l.u < updates) × (length l.out ≡ length l.initial.out) × (with_chain l.d l.u l.i l.out ≡ with_chain l.d l.at l.n l.initial.out)
