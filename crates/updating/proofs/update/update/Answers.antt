-- `updating::update::update` meets its contract: of 4,096 at most, a table is as alone. Assumes nothing.
use mathlib.Core.Path.{◌∙◌}
use Rattle.table.proofs.Shared.{update-alone}
use Rattle.updating.proofs.update.update.Goals as goal

pub returns : goal.returns
returns c = c.update_within.ensures ∙ update-alone _ _ _ _ _ _
