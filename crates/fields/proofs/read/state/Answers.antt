-- `fields::read::state` meets its contract: the part is read in its place. Assumes nothing.
use Rattle.cells.specs.Decode.{cells}
use Rattle.cells.specs.Parts.{offset, size, split}
use Rattle.fields.proofs.read.state.Goals as goal

pub returns : goal.returns
unfolding cells offset size split
returns c = rw c.wide.ensures.0 at c.byte_at.ensures
