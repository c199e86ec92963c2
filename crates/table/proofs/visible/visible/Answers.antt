-- `table::visible::visible` meets its contract: the order in the lower half. Assumes nothing.
use native.Mathlib.Omega.{arith}
use Rattle.cells.specs.Order.{order}
use Rattle.order.proofs.Laws.{fits}
use Rattle.table.specs.Halves.{low, cells_of}
use Rattle.table.proofs.Halves.{low-length}
use Rattle.table.proofs.visible.visible.Goals as goal

pub list-requires : goal.list-requires
unfolding low
list-requires c =
    (low-length c.args.t.now c.requires.0, c.requires.1, c.requires.2, c.requires.3)

pub returns : goal.returns
unfolding low
returns c =
    let s = c.args in
    let f = fits c.list.result (order (cells_of s.t.now) s.r.0) _ _ c.list.ensures.0 c.list.ensures.1 in
    let k = c.list.auto.out in
    (omega arith, f.0, c.list.ensures.0, f.1)
