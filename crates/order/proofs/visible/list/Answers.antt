-- `order::visible::list` meets its contract: what r inherited, and behind it its own list. Assumes nothing.
use mathlib.Core.Path.{◌∙◌, ap, sym}
use native.Mathlib.Omega.{arith}
use Rattle.lists.specs.Arranged.{flat_back}
use Rattle.cells.specs.Cells.{flagged}
use Rattle.cells.specs.Decode.{cells}
use Rattle.cells.specs.Order.{inherited, order}
use Rattle.order.proofs.Laws.{added_as, added-bounds, added_then, picks_all}
use Rattle.order.proofs.visible.list.Goals as goal

pub add_left-m-requires : goal.add_left-m-requires
add_left-m-requires c =
    (c.requires.0, c.requires.1, c.requires.2, c.place_of-j.ensures.0, c.room-room.ensures, c.requires.3)

pub add_some-requires : goal.add_some-requires
add_some-requires c =
    let s = c.args in
    let w = added-bounds s.out.now c.requires.3 0 _ _ _ (omega arith) c.add_left-m.ensures in
    (c.requires.0, c.requires.1, c.requires.2, c.requires.2, c.add_left-m.auto.room ∙ c.room-room.ensures, w.2, w.1)

pub returns : goal.returns
unfolding order
returns c =
    let s = c.args in
    let k = cells s.d.now in
    let f = inherited k s.r.0 in
    let left = added_as (ap (flat_back f) (sym c.place_of-j.ensures.1)) c.add_left-m.ensures in
    let own-list = added_as (picks_all k s.r.0 c.count-n.result (flagged k s.r.0) c.count-n.ensures.0) c.add_some.ensures in
    let a = added_then s.out.now c.requires.3 0 _ _ _ _ _ _ (omega arith) left own-list in
    (a.many, a.eq)
