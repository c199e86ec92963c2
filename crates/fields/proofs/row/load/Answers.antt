-- `fields::row::load` meets its contract: the row, or no flag where it is not in use. Assumes nothing.
use mathlib.Core.Path.{◌∙◌, sym}
use native.Mathlib.Omega.{arith}
use Rattle.fields.proofs.FlagReads.{row-unused, row-used}
use Rattle.fields.proofs.row.load.Goals as goal

pub returns-then-used : goal.returns-then-used
returns-then-used c =
    let s = c.args in
    c.copy.ensures ∙ row-used s.d.now s.r.0 c.wide-x.result (omega arith) (omega arith) c.wide-x.ensures.0 (sym c.used.ensures ∙ c.if-used.true)

pub returns : goal.returns
returns c =
    let s = c.args in
    row-unused s.d.now s.r.0 (sym c.used.ensures ∙ c.if-used.false)
