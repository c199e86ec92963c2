-- `report::lines::lines` meets its contract: the lines of the first i records are in place, and the table is as they leave it. Assumes nothing.
use Prim.Native.Nat.{◌+◌, ◌*◌, ◌≤◌}
use mathlib.Core.Path.{◌≡◌}
use lib.ListN.{length}
use Rattle.text.specs.Placed.{placed}
use Rattle.report.specs.Run.{table_after}
use Rattle.report.specs.Printed.{lines as lines_of}
use Rattle.report.proofs.lines.lines.Given as goal

abbrev pub invariant-loop-i : goal.invariant-loop-i
invariant-loop-i l =
    (l.end ≤ l.at + 20 * l.i) × (length l.t ≡ length l.initial.t) × (length l.out ≡ length l.initial.out)
    × (l.t ≡ table_after l.initial.t l.f l.i) × (l.end ≡ l.at + length (lines_of l.initial.t l.f l.i)) × (l.out ≡ placed l.initial.out l.at (lines_of l.initial.t l.f l.i)) × (length l.board ≡ length l.initial.board)
