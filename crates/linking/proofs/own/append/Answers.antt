-- `linking::own::append` meets its contract: the writes in a row. Assumes nothing.
use Prim.Native.Nat.{◌+◌}
use mathlib.Core.Path.{◌∙◌, ap}
use Rattle.cells.specs.Decode.{cells}
use Rattle.cells.specs.CellSteps.{counted}
use Rattle.cells.proofs.Range.{ranges}
use Rattle.linking.proofs.Writes.{append-done}
use Rattle.linking.proofs.own.append.Goals as goal

pub link-requires : goal.link-requires
link-requires c =
    let s = c.args in
    (c.requires.0, rw c.updates-u.ensures.0 c.requires.3, rw c.last-last.ensures.0 ((ranges s.d.now c.requires.1).last s.r.0 c.requires.2))

pub returns : goal.returns
unfolding cells
returns c =
    let s = c.args in
    let more = c.counted-count.ensures.0 ∙ ap (λ n. counted (n + 1)) c.count.ensures.0 in
    let written =
    append-done s.d.now c.requires.0 _ _ _ _ _ s.r.0 c.updates-u.result c.last-last.result c.counted-count.result c.first_or-first.result
    c.updates-u.ensures.0 c.last-last.ensures.0 more c.first_or-first.ensures.0
    c.link.ensures c.last.ensures c.first.ensures c.count-2.ensures c.updates.ensures in
    (c.updates-u.ensures.0, written)
