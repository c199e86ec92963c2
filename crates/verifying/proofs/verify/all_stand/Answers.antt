-- `verifying::verify::all_stand` meets its contract: no number passed is out of order. Assumes nothing.
use mathlib.Core.Path.{sym, ◌∙◌}
use native.Mathlib.Omega.{arith}
use Rattle.cells.specs.Sizes.{revisions}
use Rattle.cells.specs.Order.{order}
use Rattle.orderfile.specs.Checks.{place_at}
use Rattle.table.specs.Halves.{cells_of}
use Rattle.table.specs.Calls.{is_out}
use Rattle.verifying.proofs.Stands.{none_yet, none_more, one_found, none_found}
use Rattle.verifying.proofs.verify.all_stand.Goals as goal

pub loop-n-init : goal.loop-n-init
loop-n-init c =
    let s = c.args in
    let k = cells_of s.t.now in
    (omega arith, c.room-list.ensures, none_yet revisions (is_out k) (order k) (place_at s.places.now))

pub slice_bounds-stands-end : goal.slice_bounds-stands-end
slice_bounds-stands-end c = sym c.loop-n.invariant.1

pub stands-requires : goal.stands-requires
stands-requires c = (c.requires.0, c.requires.1, c.loop-n.invariant.1)

pub returns-then-not-stands : goal.returns-then-not-stands
returns-then-not-stands c =
    let s = c.args in
    let k = cells_of s.t.now in
    one_found revisions (is_out k) (order k) (place_at s.places.now) c.loop-n.n _ c.stands.ensures (omega arith) c.if-not-stands.true

pub loop-n-preserved : goal.loop-n-preserved
loop-n-preserved c =
    let s = c.args in
    let k = cells_of s.t.now in
    let l = c.loop-n in
    (omega arith, c.stands.auto.list ∙ l.invariant.1, none_more revisions (is_out k) (order k) (place_at s.places.now) l.n _ c.stands.ensures l.invariant.2 c.if-not-stands.false)

pub returns : goal.returns
returns c =
    let s = c.args in
    let k = cells_of s.t.now in
    let l = c.loop-n in
    none_found revisions (is_out k) (order k) (place_at s.places.now) l.n l.invariant.0 (omega arith) l.invariant.2
