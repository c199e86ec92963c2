-- `order::visible::sift` meets its contract: of the first `i` entries those that r inherited are there. Assumes nothing.
use Prim.Native.Nat.{◌≤◌}
use mathlib.Core.Path.{◌≡◌}
use lib.ListN.{length, take}
use Rattle.cells.specs.Cells.{flagged}
use Rattle.cells.specs.Decode.{cells}
use Rattle.cells.specs.Order.{picks}
use Rattle.cells.specs.Sizes.{updates}
use Rattle.order.specs.Added.{Added}
use Rattle.order.proofs.visible.sift.Given as goal

abbrev pub invariant-loop-i : goal.invariant-loop-i
invariant-loop-i l = (l.i ≤ length l.list) × (l.m ≤ updates) × (length l.out ≡ updates) × Added l.initial.out l.n (picks l.base (flagged (cells l.d) l.r.0) (take l.i l.list)) l.out l.m
