-- `listing::list::show` meets its contract: the order of r, then its lines. Assumes nothing.
use Rattle.listing.proofs.Listed.{shown}
use Rattle.listing.proofs.list.show.Goals as goal

pub visible-n-requires : goal.visible-n-requires
visible-n-requires c =
    (c.requires.0, c.requires.1, c.requires.2, c.room-out.ensures)

pub put-requires : goal.put-requires
put-requires c =
    let v = c.visible-n.ensures in
    (c.requires.0, rw (v.3, ← v.2) v.0)

pub returns : goal.returns
returns c =
    let s = c.args in
    shown s.t.now s.sheet.now _ s.r.0 _ c.visible-n.ensures.3 c.put.ensures
