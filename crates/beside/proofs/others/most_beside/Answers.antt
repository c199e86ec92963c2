-- `beside::others::most_beside` meets its contract: the sum of the three. Assumes nothing.
use mathlib.Core.Path.{◌∙◌}
use Rattle.beside.proofs.others.most_beside.Goals as goal

pub returns : goal.returns
returns c =
    c.most.ensures ∙ rw (c.reserved.ensures.0, c.reserved-2.ensures.0, c.reserved-3.ensures.0)
