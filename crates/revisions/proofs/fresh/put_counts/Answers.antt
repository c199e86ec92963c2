-- `revisions::fresh::put_counts` meets its contract: three parts put in whole. Assumes nothing.
use mathlib.Core.Path.{refl}
use native.Mathlib.Omega.{arith}
use Rattle.cells.specs.Parts.{counters_part, offset, opened_part, signature_part, size}
use Rattle.cells.specs.Range.{signature}
use Rattle.revisions.proofs.Writes.{put_as, three_put}
use Rattle.revisions.proofs.fresh.put_counts.Goals as goal

pub returns : goal.returns
unfolding offset size signature
returns c =
    let d = c.args.d.now in
    let d₁ = c.put.new.t in
    let d₂ = c.put-2.new.t in
    three_put d d₁ d₂ c.put-3.new.t opened_part counters_part signature_part _ _ _ c.requires (omega arith) (omega arith) (omega arith) refl refl refl
    (put_as d d₁ c.fresh_opened-opened.result _ opened_part c.fresh_opened-opened.ensures c.put.ensures)
    (put_as d₁ d₂ c.fresh_counters-counters.result _ counters_part c.fresh_counters-counters.ensures c.put-2.ensures)
    (put_as d₂ _ c.signature-signature.result _ signature_part c.signature-signature.ensures c.put-3.ensures)
