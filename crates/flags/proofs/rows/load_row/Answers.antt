-- `flags::rows::load_row` meets its contract: the bytes copied have the row's flags. Assumes nothing.
use Prim.Native.Nat.{◌*◌}
use native.Mathlib.Omega.{arith}
use borrow.Author.Rules.{rules}
use Rattle.lists.proofs.Replaced.{lent-size}
use Rattle.flags.proofs.Bytes.{row_copied}
use Rattle.flags.proofs.rows.load_row.Goals as goal

pub returns : goal.returns
returns c =
    let s = c.args in
    row_copied s.t.now c.copy_from_slice.new.self (8 * s.x) 8 (rw lent-size at c.copy_from_slice.ensures.after) (omega arith) (search rules)
