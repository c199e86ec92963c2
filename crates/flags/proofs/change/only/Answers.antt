-- `flags::change::only` meets its contract: the bits of a power of two. Assumes nothing.
use mathlib.Core.Path.{◌∙◌}
use native.Mathlib.Omega.{arith}
use lib.Dec.{eqb}
use Rattle.cells.proofs.Flags.{row_bytes_same}
use Rattle.flags.proofs.Digits.{bit-only}
use Rattle.flags.proofs.change.only.Goals as goal

pub returns : goal.returns
returns c =
    let wide = c.wide in
    let r = c.args.r.0 in
    rw wide.ensures.0 at c.row.ensures ∙ row_bytes_same 8 _ (λ y. eqb y r) (λ y h. bit-only r y (omega arith))
