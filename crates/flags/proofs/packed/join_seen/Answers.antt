-- `flags::packed::join_seen` meets its contract: two rows loaded, one stored. Assumes nothing.
use mathlib.Core.Path.{◌∙◌, ap}
use native.Mathlib.Omega.{arith}
use Rattle.cells.specs.Flags.{flag_at, put_row}
use Rattle.flags.proofs.Laws.{join_row_stored}
use Rattle.flags.proofs.packed.join_seen.Goals as goal

pub returns : goal.returns
returns c =
    let s = c.args in
    let row = c.join_seen-row in
    let joiner = c.load_row in
    let joinee = c.load_row-2 in
    c.store_row.ensures
    ∙ ap (λ x. put_row 8 s.t.now x (flag_at row.result)) c.wide-x.ensures.0
    ∙ join_row_stored s.t.now joiner.result joinee.result row.result s.a.0 s.b.0 (omega arith) (omega arith)
    (rw c.wide-x.ensures.0 at joiner.ensures) (rw c.wide.ensures.0 at joinee.ensures) row.ensures
