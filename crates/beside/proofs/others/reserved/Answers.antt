-- `beside::others::reserved` meets its contract: the larger of the count that was read. Assumes nothing.
use mathlib.Core.Path.{◌∙◌, ap}
use Rattle.card.specs.Log as Log
use Rattle.beside.proofs.others.reserved.Goals as goal

pub returns : goal.returns
returns c =
    (c.larger.ensures.0 ∙ ap Log.larger c.taken.ensures.0, c.larger.ensures.1)
