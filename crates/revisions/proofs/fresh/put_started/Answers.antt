-- `revisions::fresh::put_started` meets its contract: one part put in whole. Assumes nothing.
use mathlib.Core.Path.{◌∙◌}
use native.Mathlib.Omega.{arith}
use Rattle.cells.specs.Parts.{offset, started_part, size}
use Rattle.cells.proofs.Parts.{part_put}
use Rattle.revisions.proofs.Writes.{put_as}
use Rattle.revisions.proofs.fresh.put_started.Goals as goal

pub returns : goal.returns
unfolding offset size
returns c =
    let d = c.args.d.now in
    put_as d _ c.fresh_started-started.result _ started_part c.fresh_started-started.ensures c.put.ensures ∙ part_put d started_part _ c.requires (omega arith)
