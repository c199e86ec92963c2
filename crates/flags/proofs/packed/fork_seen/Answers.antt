-- `flags::packed::fork_seen` meets its contract: the column cleared, and two rows stored. Assumes nothing.
use mathlib.Core.Path.{◌∙◌, ap}
use native.Mathlib.Omega.{arith}
use Rattle.cells.specs.Flags.{flag_at, put_row}
use Rattle.flags.proofs.InPlace.{fork-stored}
use Rattle.flags.proofs.packed.fork_seen.Goals as goal

pub returns : goal.returns
returns c =
    let s = c.args in
    let column = c.only-column in
    let row = c.load_row-row in
    let more = c.either in
    let parent = c.wide-x.ensures.0 in
    let child = c.wide.ensures.0 in
    let cleared = c.clear.ensures in
    c.store_row-2.ensures ∙ ap (λ x. put_row 8 c.store_row.new.t x (flag_at more.result)) parent
    ∙ ap (λ z. put_row 8 z s.parent.0 (flag_at more.result))
    (c.store_row.ensures ∙ ap (λ x. put_row 8 c.clear.new.t x (flag_at row.result)) child ∙ ap (λ z. put_row 8 z s.child.0 (flag_at row.result)) cleared)
    ∙ fork-stored s.t.now column.result row.result more.result s.parent.0 s.child.0 (omega arith) (omega arith) column.ensures
    (rw (parent, cleared) at row.ensures) more.ensures
