-- `order::visible::place_of` meets its contract: r is in no place before `j`. Assumes nothing.
use Prim.Native.Nat.{◌≤◌}
use mathlib.Core.Path.{◌≡◌}
use lib.ListN.{drop}
use Rattle.lists.specs.Arranged.{behind}
use Rattle.cells.specs.Cells.{outs}
use Rattle.cells.specs.Decode.{cells}
use Rattle.cells.specs.Sizes.{revisions}
use Rattle.order.proofs.visible.place_of.Given as goal

abbrev pub invariant-loop-j : goal.invariant-loop-j
invariant-loop-j l = (l.j ≤ l.n) × (l.n ≡ (cells l.d).out) × (l.n ≤ revisions) × (behind l.r.0 (outs (cells l.d)) ≡ behind l.r.0 (drop l.j (outs (cells l.d))))
