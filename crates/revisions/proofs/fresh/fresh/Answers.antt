-- `revisions::fresh::fresh` meets its contract: the writes in a row. Assumes nothing.
use mathlib.Core.Path.{◌∙◌}
use Rattle.stores.proofs.Zeros.{zeros}
use Rattle.revisions.proofs.Writes.{fresh_done}
use Rattle.revisions.proofs.fresh.fresh.Goals as goal

pub returns : goal.returns
returns c =
    fresh_done c.args.single _ _ _ _ _ _ (c.clear.ensures ∙ zeros _ c.requires) c.caught.ensures
    c.put_revisions.ensures c.put_counts.ensures c.put_choice.ensures c.put_started.ensures
