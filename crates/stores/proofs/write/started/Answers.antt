-- `stores::write::started` meets its contract: one part is lent and comes back written. Assumes nothing.
use mathlib.Core.Path.{refl}
use native.Mathlib.Omega.{arith}
use Rattle.cells.specs.Parts.{started_part, offset, size}
use Rattle.places.proofs.InPart.{word-lent}
use Rattle.stores.proofs.write.started.Goals as goal

pub returns : goal.returns
unfolding offset size
returns c =
    let s = c.args in
    word-lent s.d.now started_part s.v (omega arith) (omega arith) refl c.put_word.ensures
