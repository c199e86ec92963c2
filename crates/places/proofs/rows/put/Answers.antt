-- `places::rows::put` meets its contract: the row's bytes are lent and come back written. Assumes nothing.
use Prim.Native.Nat.{◌*◌}
use mathlib.Core.Path.{◌∙◌}
use native.Mathlib.Omega.{arith}
use borrow.Author.Rules.{rules}
use Rattle.lists.proofs.Replaced.{lent-replaced}
use Rattle.cells.specs.Flags.{put_row}
use Rattle.flags.proofs.Bytes.{bytes_row}
use Rattle.places.proofs.rows.put.Goals as goal

pub returns : goal.returns
unfolding put_row
returns c =
    let s = c.args in
    lent-replaced s.t.now _ _ (512 * s.x) 512 (c.copy_from_slice.ensures.after ∙ bytes_row s.row 512 (omega arith) (search rules))
