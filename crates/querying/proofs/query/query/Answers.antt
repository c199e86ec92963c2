-- `querying::query::query` meets its contract: code 1, then the other checks and the work. Assumes nothing.
use mathlib.Core.Path.{◌∙◌, sym}
use Rattle.table.proofs.Buffer.{is-table, no_table}
use Rattle.querying.proofs.Calls.{no_query}
use Rattle.querying.proofs.query.query.Goals as goal

pub returns-in_default : goal.returns-in_default
returns-in_default c = no_query _ (no_table _ (sym c.check_table.ensures ∙ c.in_default.is)) _ _ _

pub query_sound-requires : goal.query_sound-requires
query_sound-requires c = is-table _ (sym c.check_table.ensures ∙ c.in-Sound.is)
