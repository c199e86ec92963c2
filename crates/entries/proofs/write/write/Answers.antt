-- `entries::write::write` meets its contract: the entry's six bytes are lent and come back stored. Assumes nothing.
use Prim.Native.Nat.{◌*◌}
use mathlib.Core.Path.{◌∙◌}
use Rattle.lists.proofs.Replaced.{lent-replaced}
use Rattle.entries.specs.Entries.{wrote}
use Rattle.entries.proofs.write.write.Goals as goal

pub returns : goal.returns
unfolding wrote
returns c =
    let s = c.args in
    lent-replaced s.t.now _ _ (6 * c.from-at.result) 6 c.store.ensures ∙ rw c.from-at.ensures
