-- `listing::list::list` meets its contract: code 1, then the other checks and the work. Assumes nothing.
use mathlib.Core.Path.{◌∙◌, sym}
use Rattle.table.proofs.Buffer.{is-table, no_table}
use Rattle.listing.proofs.Calls.{no-list}
use Rattle.listing.proofs.list.list.Goals as goal

pub returns-in_default : goal.returns-in_default
returns-in_default c = no-list _ (no_table _ (sym c.check_table.ensures ∙ c.in_default.is)) _ _

pub list_sound-requires : goal.list_sound-requires
list_sound-requires c = is-table _ (sym c.check_table.ensures ∙ c.in-Sound.is)
