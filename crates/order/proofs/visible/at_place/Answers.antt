-- `order::visible::at_place` meets its contract: a place holds a revision's number, by the range of its cell. Assumes nothing.
use mathlib.Core.Path.{sym, ◌∙◌}
use native.Mathlib.Omega.{arith}
use Rattle.cells.proofs.Range.{ranges}
use Rattle.fields.proofs.InRange.{known-revision, unknown_revision}
use Rattle.order.proofs.visible.at_place.Goals as goal

pub returns-in_default : goal.returns-in_default
returns-in_default c =
    let l = (ranges c.args.d.now c.requires.1).layout c.args.i c.requires.2 in
    let e = c.place.ensures.0 in
    let s = unknown_revision _ _ (sym c.try_from.ensures ∙ c.in_default.is) in
    absurd (omega arith)

pub returns : goal.returns
returns c =
    let k = known-revision _ _ (sym c.try_from.ensures ∙ c.in-Ok.is) in
    let e = k.0 ∙ c.place.ensures.0 in
    (e, omega arith)
