-- `order::visible::add_some` meets its contract: what is sifted is the own list. Assumes nothing.
use mathlib.Core.Path.{◌∙◌, ap}
use native.Mathlib.Omega.{arith}
use Rattle.cells.specs.Cells.{flagged}
use Rattle.cells.specs.Decode.{cells}
use Rattle.cells.specs.Order.{picks}
use Rattle.order.proofs.Laws.{added_as, gathered, gathered-length}
use Rattle.order.proofs.visible.add_some.Goals as goal

pub slice_bounds-sift-end : goal.slice_bounds-sift-end
slice_bounds-sift-end c =
    let own = c.own_list-many in
    let few = c.own_list-many.ensures.1 in
    let same = own.auto.out ∙ c.requires.4 in
    omega arith

pub slice_bounds-sift-end-2 : goal.slice_bounds-sift-end-2
slice_bounds-sift-end-2 c =
    gathered-length (cells c.args.d.now) c.args.x.0 _ _ _ c.own_list-many.ensures.0 c.own_list-many.ensures.2

pub returns : goal.returns
returns c =
    let s = c.args in
    let k = cells s.d.now in
    added_as (ap (picks s.base (flagged k s.r.0)) (gathered k s.x.0 _ _ _ c.own_list-many.ensures.0 c.own_list-many.ensures.2).1) c.sift.ensures
