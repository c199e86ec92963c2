-- `fields::read::is_named` meets its contract: the part is read in its place. Assumes nothing.
use mathlib.Core.Path.{◌∙◌, ap}
use Rattle.lists.specs.Names.{same_name}
use Rattle.cells.specs.Decode.{cells}
use Rattle.cells.specs.Parts.{names_part, offset, size, split}
use Rattle.cells.specs.Words.{name_in}
use Rattle.fields.proofs.read.is_named.Goals as goal

pub returns : goal.returns
unfolding cells offset size split
returns c =
    let s = c.args in
    c.is_name.ensures ∙ ap (λ x. same_name (name_in (split s.d.now names_part) x) s.name.now) c.wide.ensures.0
