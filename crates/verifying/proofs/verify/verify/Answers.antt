-- `verifying::verify::verify` meets its contract: code 1, then the other check and the work. Assumes nothing.
use mathlib.Core.Path.{sym, ◌∙◌}
use Rattle.table.proofs.Buffer.{is-table, no_table}
use Rattle.verifying.proofs.Calls.{no_verify}
use Rattle.verifying.proofs.verify.verify.Goals as goal

pub returns-in_default : goal.returns-in_default
returns-in_default c = no_verify _ (no_table _ (sym c.check_table.ensures ∙ c.in_default.is)) _

pub verify_sound-requires : goal.verify_sound-requires
verify_sound-requires c = is-table _ (sym c.check_table.ensures ∙ c.in-Sound.is)
