-- `sheets::lines::lines` meets its contract: one line more at each turn. Assumes nothing.
use mathlib.Core.Path.{◌≡◌}
use lib.ListN.{length, take}
use Rattle.entries.specs.Entries.{entry_at}
use Rattle.sheets.specs.Sheet.{sheet}
use Rattle.sheets.proofs.lines.lines.Given as goal

abbrev pub invariant-loop-i : goal.invariant-loop-i
invariant-loop-i l = (l.s ≡ sheet (entry_at l.t) (take l.i l.order) l.initial.s) × (length l.s ≡ length l.initial.s)
