-- `posting::brought::post_entry` meets its contract: the entry is read and posted. Assumes nothing.
use mathlib.Core.Path.{◌∙◌}
use Rattle.posting.proofs.brought.post_entry.Goals as goal

pub returns : goal.returns
returns c =
    c.post.ensures ∙ rw c.read-e.ensures
