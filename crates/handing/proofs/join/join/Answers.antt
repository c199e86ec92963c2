-- `handing::join::join` meets its contract: the merge, which leaves a table in range, and the drop. Assumes nothing.
use mathlib.Core.Path.{◌∙◌, ap}
use native.Mathlib.Omega.{arith}
use borrow.Author.Rules.{rules}
use Rattle.cells.specs.Range.{in_range}
use Rattle.cells.proofs.Stays.{Lower, merge-stays}
use Rattle.handing.proofs.Writes.{join-done}
use Rattle.handing.proofs.join.join.Goals as goal

pub drop-requires : goal.drop-requires
drop-requires c =
    let s = c.args in
    let L : Lower s.d.now = record { long = c.requires.0; ranged = c.requires.1 } in
    (search rules, ap in_range c.merge-gain.ensures.1 ∙ (merge-stays s.d.now L s.a.0 s.b.0 c.requires.2 c.requires.3).ranged, omega arith)

pub returns : goal.returns
returns c =
    let s = c.args in
    (c.merge-gain.ensures.0, join-done s.d.now c.requires.0 _ _ s.a.0 s.b.0 c.requires.2 c.merge-gain.ensures.1 c.drop.ensures)
