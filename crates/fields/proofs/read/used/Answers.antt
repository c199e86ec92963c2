-- `fields::read::used` meets its contract: the part is read in its place. Assumes nothing.
use mathlib.Core.Path.{ap}
use lib.Dec.{eqb}
use Rattle.cells.specs.Decode.{cells}
use Rattle.cells.specs.Parts.{offset, size, split}
use Rattle.fields.proofs.read.used.Goals as goal

pub returns : goal.returns
unfolding cells offset size split
returns c = ap (λ v. eqb v 1) (rw c.wide.ensures.0 at c.byte_at.ensures.0)
