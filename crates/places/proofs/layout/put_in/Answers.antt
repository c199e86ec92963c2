-- `places::layout::put_in` meets its contract: where p stands a place is opened. Assumes nothing.
use mathlib.Core.Path.{◌∙◌}
use native.Mathlib.Omega.{arith}
use Rattle.places.proofs.Moved.{none_in, put_in, sought}
use Rattle.places.proofs.layout.put_in.Goals as goal

pub returns-in-Some : goal.returns-in-Some
returns-in-Some c =
    let s = c.args in
    let at = rw c.in-Some.is at (sought s.parent s.t.now _ c.find.ensures) in
    c.open.ensures ∙ put_in s.parent s.child c.in-Some.i s.t.now (omega arith) at.0 (omega arith)

pub returns-in_default : goal.returns-in_default
returns-in_default c =
    let s = c.args in
    let none = rw c.in_default.is at (sought s.parent s.t.now _ c.find.ensures) in
    none_in s.parent s.child s.t.now (omega arith) (omega arith)
