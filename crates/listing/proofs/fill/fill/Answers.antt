-- `listing::fill::fill` meets its contract: code 1, then the other checks on the lower half. Assumes nothing.
use mathlib.Core.Path.{◌∙◌, sym}
use Rattle.table.specs.Halves.{low}
use Rattle.table.proofs.Buffer.{is-table, no_table}
use Rattle.listing.proofs.Calls.{no-fill, fill_of}
use Rattle.listing.proofs.fill.fill.Goals as goal

pub returns-in_default : goal.returns-in_default
returns-in_default c = no-fill _ (no_table _ (sym c.check_table.ensures ∙ c.in_default.is)) _

pub returns : goal.returns
unfolding low
returns c =
    c.fill_in.ensures ∙ fill_of _ _ (is-table _ (sym c.check_table.ensures ∙ c.in-Sound.is)).0
