-- `places::layout::take_out` meets its contract: where b stands its place is closed. Assumes nothing.
use mathlib.Core.Path.{◌∙◌}
use native.Mathlib.Omega.{arith}
use Rattle.places.proofs.Moved.{none_out, sought, taken_out}
use Rattle.places.proofs.layout.take_out.Goals as goal

pub returns-in-Some : goal.returns-in-Some
returns-in-Some c =
    let s = c.args in
    let at = rw c.in-Some.is at (sought s.b s.t.now _ c.find.ensures) in
    c.close.ensures ∙ taken_out s.b c.in-Some.i s.t.now (omega arith) at.0 (omega arith)

pub returns-in_default : goal.returns-in_default
returns-in_default c =
    let s = c.args in
    let none = rw c.in_default.is at (sought s.b s.t.now _ c.find.ensures) in
    none_out s.b s.t.now (omega arith) (omega arith)
