-- `handing::join::merge` meets its contract: the writes in a row. Assumes nothing.
use Rattle.cells.specs.Decode.{cells}
use Rattle.handing.proofs.Writes.{merge-done}
use Rattle.handing.proofs.join.merge.Goals as goal

pub returns : goal.returns
unfolding cells
returns c =
    let s = c.args in (
      c.count-gain.ensures.0,
      merge-done s.d.now c.requires.0 _ _ _ _ _ s.a.0 s.b.0 c.count.result c.count-gain.result c.counted-total.result c.settled_with-settled.result c.requires.2
          c.count.ensures.0 c.count-gain.ensures.0 c.counted-total.ensures.0 c.settled_with-settled.ensures.0
          c.splice.ensures c.count-2.ensures c.settled.ensures c.join_seen.ensures c.join_caught.ensures,
    )
