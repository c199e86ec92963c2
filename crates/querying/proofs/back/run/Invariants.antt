-- `querying::back::run` meets its contract: those kept, with those left, stand for all. Assumes nothing.
use Prim.Native.Nat.{◌+◌, ◌<◌, ◌≤◌}
use mathlib.Core.Bool.{false}
use mathlib.Core.Path.{◌≡◌}
use mathlib.Core.List.{◌++◌}
use lib.ListN.{drop, length}
use Rattle.cells.specs.Sizes.{updates}
use Rattle.entries.specs.Entries.{entry_at}
use Rattle.entries.specs.Walked.{StandsFor}
use Rattle.querying.specs.Left.{left}
use Rattle.querying.proofs.back.run.Given as goal

abbrev pub invariant-loop-i : goal.invariant-loop-i
invariant-loop-i l =
    (l.i ≤ l.n) × (l.u < updates) × (l.p ≤ l.from) × (l.from + l.i ≤ l.p + l.n) × (length l.out ≡ length l.initial.out)
    × StandsFor (entry_at l.h) l.s.bib false (left l.d l.s.r.0 l.s.base l.u l.i) (drop l.p l.out) (left l.d l.s.r.0 l.s.base l.at l.n ++ drop l.from l.initial.out)
