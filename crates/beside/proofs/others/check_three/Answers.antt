-- `beside::others::check_three` meets its contract: the first that is no table ends it, and the third decides. Assumes nothing.
use mathlib.Core.Path.{◌∙◌, sym}
use Rattle.beside.proofs.Beside.{first-damaged, second-damaged, third-decides}
use Rattle.table.proofs.Buffer.{is-table, no_table}
use Rattle.beside.proofs.others.check_three.Goals as goal

pub returns-in_default : goal.returns-in_default
returns-in_default c =
    first-damaged _ _ _ (no_table _ (sym c.check_table.ensures ∙ c.in_default.is))

pub returns-in_default-check_table : goal.returns-in_default-check_table
returns-in_default-check_table c =
    second-damaged _ _ _ (is-table _ (sym c.check_table.ensures ∙ c.in-Sound.is)).0 (no_table _ (sym c.check_table-2.ensures ∙ c.in_default-check_table.is))

pub returns : goal.returns
returns c =
    c.check_table-3.ensures
    ∙ third-decides _ _ _ (is-table _ (sym c.check_table.ensures ∙ c.in-Sound.is)).0 (is-table _ (sym c.check_table-2.ensures ∙ c.in-Sound-check_table.is)).0
