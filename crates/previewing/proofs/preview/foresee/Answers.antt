-- `previewing::preview::foresee` meets its contract: the join on a copy, and what is read there. Assumes nothing.
use mathlib.Core.Path.{◌∙◌, ap}
use mathlib.Core.List.{◌++◌}
use lib.ListN.{length}
use Rattle.cells.specs.Range.{in_range}
use Rattle.cells.specs.Steps.{join_bytes}
use Rattle.cells.proofs.Stays.{join-stays}
use Rattle.table.specs.Halves.{high, low}
use Rattle.table.specs.Calls.{foreseen, standing_at}
use Rattle.table.proofs.Halves.{low-length}
use Rattle.previewing.proofs.preview.foresee.Goals as goal

pub read_on-requires : goal.read_on-requires
unfolding low
read_on-requires c =
    let s = c.args in
    let pre = c.requires in
    let joined = join-stays (low s.t.now) (record { long = low-length s.t.now pre.0; ranged = pre.1 }) s.a.0 s.b.0 pre.2 pre.3 pre.4 in
    (ap length c.join_copy.ensures ∙ joined.long, ap in_range c.join_copy.ensures ∙ joined.ranged, pre.0, pre.2)

pub returns : goal.returns
returns c =
    let s = c.args in
    c.read_on.ensures
    ∙ ap (λ d. foreseen (standing_at (d ++ high s.t.now) s.a.0 s.bib) c.own-gain.result) c.join_copy.ensures
    ∙ ap (foreseen (standing_at (join_bytes (low s.t.now) s.a.0 s.b.0 ++ high s.t.now) s.a.0 s.bib)) c.own-gain.ensures.0
