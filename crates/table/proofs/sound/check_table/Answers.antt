-- `table::sound::check_table` meets its contract: the length, then the cells. Assumes nothing.
use mathlib.Core.Path.{◌∙◌, sym}
use Rattle.table.specs.Halves.{low}
use Rattle.table.proofs.Buffer.{wrong-cells, right_cells}
use Rattle.table.proofs.sound.check_table.Goals as goal

pub returns-in_default-check_range : goal.returns-in_default-check_range
unfolding low
returns-in_default-check_range c =
    wrong-cells _ (sym c.check_length.ensures ∙ c.in-Right.is) (sym c.check_range.ensures ∙ c.in_default-check_range.is)

pub returns : goal.returns
unfolding low
returns c =
    right_cells _ (sym c.check_length.ensures ∙ c.in-Right.is) (sym c.check_range.ensures ∙ c.in-Sound.is)
