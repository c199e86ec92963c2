-- `querying::back::walk_behind` meets its contract: those kept, with what the lists from place `i` on have, stand for all. Assumes
-- nothing.
use Prim.Native.Nat.{◌+◌, ◌≤◌}
use mathlib.Core.Bool.{false}
use mathlib.Core.Path.{◌≡◌}
use mathlib.Core.List.{◌++◌}
use lib.ListN.{drop, length}
use Rattle.lists.specs.Arranged.{flat_back}
use Rattle.cells.specs.Cells.{outs}
use Rattle.cells.specs.Decode.{cells}
use Rattle.cells.specs.Order.{inherited}
use Rattle.order.specs.Counts.{counts}
use Rattle.entries.specs.Entries.{entry_at}
use Rattle.entries.specs.Walked.{StandsFor}
use Rattle.querying.proofs.back.walk_behind.Given as goal

abbrev pub invariant-loop-i : goal.invariant-loop-i
invariant-loop-i l =
    (l.n ≡ (cells l.d).out) × (l.p ≤ l.from) × (l.from + counts (cells l.d) (drop l.i (outs (cells l.d))) ≤ l.p + counts (cells l.d) (drop l.initial.i (outs (cells l.d)))) × (length l.out ≡ length l.initial.out)
    × StandsFor (entry_at l.h) l.bib false (flat_back (inherited (cells l.d) l.r.0) (drop l.i (outs (cells l.d)))) (drop l.p l.out) (flat_back (inherited (cells l.d) l.r.0) (drop l.initial.i (outs (cells l.d))) ++ drop l.from l.initial.out)
