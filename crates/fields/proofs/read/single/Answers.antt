-- `fields::read::single` meets its contract: the part is read in its place. Assumes nothing.
use mathlib.Core.Path.{ap}
use lib.Dec.{eqb}
use Rattle.cells.specs.Decode.{cells}
use Rattle.cells.specs.Parts.{offset, size, split}
use Rattle.fields.proofs.read.single.Goals as goal

pub returns : goal.returns
unfolding cells offset size split
returns c = ap (λ v. eqb v 1) c.byte_at.ensures.0
