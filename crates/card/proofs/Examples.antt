-- The worked examples, by computation.
use mathlib.Core.Path.{refl}
use Rattle.card.specs.Log.{larger, logged, passes}
use Rattle.card.specs.Examples.{ExamplesHold}

pub examples_hold : ExamplesHold
unfolding larger logged passes
examples_hold = refl
