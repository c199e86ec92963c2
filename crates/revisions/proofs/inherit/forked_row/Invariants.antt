-- `revisions::inherit::forked_row` meets its contract: the updates so far of the own list are flagged. Assumes nothing.
use mathlib.Core.Path.{◌≡◌}
use lib.ListN.{length}
use Rattle.cells.specs.Flags.{flag_at, row_bytes}
use Rattle.revisions.proofs.Rows.{with_first}
use Rattle.revisions.proofs.inherit.forked_row.Given as goal

abbrev pub invariant-loop-update : goal.invariant-loop-update
invariant-loop-update l = (length l.flags ≡ 512) × (l.flags ≡ row_bytes 512 (with_first (flag_at l.initial.flags) l.update-items 512 l.update-index))
