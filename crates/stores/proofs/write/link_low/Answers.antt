-- `stores::write::link_low` meets its contract: one part is lent and comes back written. Assumes nothing.
use mathlib.Core.Path.{refl}
use native.Mathlib.Omega.{arith}
use Rattle.cells.specs.Parts.{low_part, offset, size}
use Rattle.places.proofs.InPart.{byte-lent}
use Rattle.stores.proofs.write.link_low.Goals as goal

pub returns : goal.returns
unfolding offset size
returns c =
    let s = c.args in
    byte-lent s.d.now low_part s.v (omega arith) (omega arith) refl c.put_byte.ensures
