-- `revisions::inherit::by_row` meets its contract: the writes in a row. Assumes nothing.
use Prim.Native.Nat.{ℕ}
use mathlib.Core.Bool.{Bool}
use native.Mathlib.Omega.{arith}
use Rattle.cells.specs.CellSteps.{fork_row}
use Rattle.cells.specs.Decode.{cells}
use Rattle.cells.specs.Flags.{flag_at}
use Rattle.cells.specs.Parts.{rows_part, split}
use Rattle.revisions.proofs.Rows.{put_row_of_same, row_flags}
use Rattle.revisions.proofs.Writes.{by-row-done}
use Rattle.revisions.proofs.inherit.by_row.Goals as goal

pub returns : goal.returns
unfolding cells
returns c =
    let s = c.args in
    let d = c.args.d.now in
    let f : ℕ → Bool = flag_at c.forked_row-flags.result in
    let e = put_row_of_same (split d rows_part) s.child.0 f (fork_row (cells d) s.parent.0) (row_flags 512 (fork_row (cells d) s.parent.0) c.forked_row-flags.result c.forked_row-flags.ensures) in
    by-row-done d c.requires.0 _ _ _ _ s.parent.0 s.child.0 c.base-base.result f (omega arith) (omega arith)
    c.base-base.ensures.0 e c.row.ensures c.used.ensures c.base.ensures c.count.ensures
