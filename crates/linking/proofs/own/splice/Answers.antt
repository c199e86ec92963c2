-- `linking::own::splice` meets its contract: nothing to splice, or the writes in a row. Assumes nothing.
use Rattle.cells.specs.Decode.{cells}
use Rattle.cells.proofs.Range.{ranges}
use Rattle.linking.proofs.Writes.{splice-done, splice-none}
use Rattle.linking.proofs.own.splice.Goals as goal

pub returns-then-count-eq0 : goal.returns-then-count-eq0
unfolding cells
returns-then-count-eq0 c =
    splice-none c.args.d.now c.requires.0 c.args.a.0 c.args.b.0 c.count.result c.count.ensures.0 c.if-count-eq0.true

pub link-requires : goal.link-requires
link-requires c =
    let s = c.args in
    let r = ranges s.d.now c.requires.1 in
    (c.requires.0, rw c.first-from.ensures.0 (r.first s.b.0 c.requires.3), rw c.last-to.ensures.0 (r.last s.a.0 c.requires.2))

pub returns : goal.returns
unfolding cells
returns c =
    let s = c.args in
    splice-done s.d.now c.requires.0 _ _ _ s.a.0 s.b.0
    c.count.result c.first-from.result c.last-to.result c.last-end.result c.first_or-first.result
    c.count.ensures.0 c.if-count-eq0.false c.first-from.ensures.0 c.last-to.ensures.0 c.last-end.ensures.0 c.first_or-first.ensures.0
    c.link.ensures c.last.ensures c.first.ensures
