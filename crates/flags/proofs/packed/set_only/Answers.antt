-- `flags::packed::set_only` meets its contract: the row written has flag r alone. Assumes nothing.
use mathlib.Core.Path.{◌∙◌, ap}
use lib.Dec.{eqb}
use Rattle.cells.specs.Flags.{flag_at, put_row}
use Rattle.cells.proofs.Flags.{flag_row_bytes, put_row_same}
use Rattle.flags.proofs.packed.set_only.Goals as goal

pub returns : goal.returns
returns c =
    let s = c.args in
    let only = c.only-row in
    c.store_row.ensures
    ∙ ap (λ x. put_row 8 s.t.now x (flag_at only.result)) c.wide.ensures.0
    ∙ put_row_same 8 s.t.now s.c.0 (flag_at only.result) (λ y. eqb y s.r.0) (λ y h. ap (λ row. flag_at row y) only.ensures ∙ flag_row_bytes 8 (λ z. eqb z s.r.0) y h)
