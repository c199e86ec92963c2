-- `revisions::fresh::put_revisions` meets its contract: three parts put in whole. Assumes nothing.
use mathlib.Core.Path.{refl}
use native.Mathlib.Omega.{arith}
use Rattle.cells.specs.Parts.{layout_part, offset, queue_part, size, state_part}
use Rattle.revisions.proofs.Writes.{put_as, three_put}
use Rattle.revisions.proofs.fresh.put_revisions.Goals as goal

pub returns : goal.returns
unfolding offset size
returns c =
    let d = c.args.d.now in
    let d₁ = c.put.new.t in
    let d₂ = c.put-2.new.t in
    three_put d d₁ d₂ c.put-3.new.t state_part layout_part queue_part _ _ _ c.requires (omega arith) (omega arith) (omega arith) refl refl refl
    (put_as d d₁ c.fresh_state-state.result _ state_part c.fresh_state-state.ensures c.put.ensures)
    (put_as d₁ d₂ c.fresh_layout-layout.result _ layout_part c.fresh_layout-layout.ensures c.put-2.ensures)
    (put_as d₂ _ c.fresh_queue-queue.result _ queue_part c.fresh_queue-queue.ensures c.put-3.ensures)
