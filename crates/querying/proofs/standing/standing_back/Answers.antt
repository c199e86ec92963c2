-- `querying::standing::standing_back` meets its contract: the walk back, then the standing along what it kept. Assumes nothing.
use Prim.Native.Nat.{◌-◌}
use mathlib.Core.Path.{◌∙◌, ap}
use native.Mathlib.Omega.{arith}
use Rattle.cells.specs.Sizes.{updates}
use Rattle.cells.specs.Decode.{cells}
use Rattle.entries.specs.Entries.{entry_at}
use Rattle.entries.specs.Folded.{standing_of}
use Rattle.querying.proofs.Walks.{order_whole, tail_lent}
use Rattle.querying.proofs.standing.standing_back.Goals as goal

pub returns : goal.returns
returns c =
    let s = c.args in
    let stands = standing_of (entry_at s.h.now) s.bib in
    let e = c.walk-from.auto.out ∙ c.room-out.ensures in
    let p = c.walk-from.result in
    c.standing.ensures
    ∙ ap stands (tail_lent _ p (updates - p) (omega arith))
    ∙ c.walk-from.ensures.1
    ∙ ap stands (order_whole (cells s.d.now) s.r.0 s.j c.requires.5 c.requires.6)
