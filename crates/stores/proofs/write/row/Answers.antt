-- `stores::write::row` meets its contract: one part is lent and comes back written. Assumes nothing.
use Prim.Native.Nat.{ℕ, zero, suc, ◌-◌, ◌<◌}
use mathlib.Core.Bool.{Bool}
use mathlib.Core.List.{List}
use mathlib.Core.Path.{◌≡◌, ◌∙◌, ap}
use native.Mathlib.Numerals.{sub-one}
use native.Mathlib.Omega.{arith}
use Rattle.cells.specs.Flags.{flag_at, put_row}
use Rattle.cells.specs.Parts.{offset, rows_part, size, split, wrote}
use Rattle.cells.specs.Steps.{put_row_of}
use Rattle.places.proofs.InPart.{lent_at}
use Rattle.stores.proofs.write.row.Goals as goal

-- the rows begin at revision 1
row_of : (t : List ℕ) (r : ℕ) (f : ℕ → Bool) → 0 < r → put_row 512 t (r - 1) f ≡ put_row_of t r f
row_of t zero f h = absurd (omega arith)
row_of t (suc r) f h = rw sub-one

pub returns : goal.returns
unfolding offset size
returns c =
    let s = c.args in
    let d = c.args.d.now in
    lent_at d rows_part (λ x t. put_row 512 t (x - 1) (flag_at s.row)) (omega arith) (omega arith) c.wide-x.ensures.0 c.put.ensures
    ∙ ap (wrote d rows_part) (row_of (split d rows_part) s.r.0 (flag_at s.row) (omega arith))
