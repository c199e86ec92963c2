-- `flags::rows::store_row` meets its contract: the bytes lent come back as the row's. Assumes nothing.
use Prim.Native.Nat.{◌*◌}
use mathlib.Core.Path.{◌∙◌}
use native.Mathlib.Omega.{arith}
use borrow.Author.Rules.{rules}
use Rattle.lists.proofs.Replaced.{lent-replaced}
use Rattle.cells.specs.Flags.{put_row}
use Rattle.flags.proofs.Bytes.{bytes_row}
use Rattle.flags.proofs.rows.store_row.Goals as goal

pub returns : goal.returns
unfolding put_row
returns c =
    let s = c.args in
    lent-replaced s.t.now _ _ (8 * s.x) 8 (c.copy_from_slice.ensures.after ∙ bytes_row s.row 8 (omega arith) (search rules))
