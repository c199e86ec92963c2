-- `stores::fresh::caught` meets its contract. Assumes nothing.
use mathlib.Core.Path.{◌∙◌, ap}
use native.Mathlib.Omega.{arith}
use Rattle.cells.specs.Parts.{caught_part, offset, size, wrote}
use Rattle.cells.proofs.Parts.{part-wrote}
use Rattle.stores.proofs.Zeros.{all_flagged}
use Rattle.stores.proofs.fresh.caught.Goals as goal

pub returns : goal.returns
unfolding offset size
returns c =
    let d = c.args.d.now in
    part-wrote d caught_part _ (omega arith) (omega arith) ∙ ap (wrote d caught_part) (c.store16.ensures ∙ all_flagged 16 c.fresh_caught.result c.fresh_caught.ensures)
