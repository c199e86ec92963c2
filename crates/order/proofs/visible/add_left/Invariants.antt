-- `order::visible::add_left` meets its contract: what r inherited from the revisions at place `i` and behind is there.
-- Assumes nothing.
use Prim.Native.Nat.{◌+◌, ◌≤◌}
use mathlib.Core.Path.{◌≡◌}
use mathlib.Core.Logic.{◌⊎◌}
use lib.ListN.{drop, length}
use Rattle.lists.specs.Arranged.{flat_back}
use Rattle.cells.specs.Cells.{outs}
use Rattle.cells.specs.Decode.{cells}
use Rattle.cells.specs.Order.{inherited}
use Rattle.cells.specs.Sizes.{updates}
use Rattle.order.specs.Added.{Added}
use Rattle.order.proofs.visible.add_left.Given as goal

abbrev pub invariant-loop-i : goal.invariant-loop-i
invariant-loop-i l =
    (l.i ≤ (cells l.d).out) × ((l.i ≡ (cells l.d).out) ⊎ (l.j + 1 ≤ l.i)) × (l.m ≤ updates)
    × (length l.room ≡ updates) × (length l.out ≡ updates) × Added l.initial.out 0 (flat_back (inherited (cells l.d) l.r.0) (drop l.i (outs (cells l.d)))) l.out l.m
