-- `updating::update::update_within` meets its contract: code 1, then the other checks and the work. Assumes nothing.
use mathlib.Core.Path.{◌∙◌, sym}
use Rattle.table.proofs.Buffer.{is-table, no_table}
use Rattle.updating.proofs.Calls.{no-update}
use Rattle.updating.proofs.update.update_within.Goals as goal

pub returns-in_default : goal.returns-in_default
returns-in_default c = no-update _ (no_table _ (sym c.check_table.ensures ∙ c.in_default.is)) _ _ _ _ _ _

pub update_sound-requires : goal.update_sound-requires
update_sound-requires c = is-table _ (sym c.check_table.ensures ∙ c.in-Sound.is)
