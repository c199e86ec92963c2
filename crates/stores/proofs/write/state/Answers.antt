-- `stores::write::state` meets its contract: one part is lent and comes back written. Assumes nothing.
use native.Mathlib.Omega.{arith}
use Rattle.cells.specs.Parts.{offset, size, state_part}
use Rattle.places.proofs.InPart.{byte-lent}
use Rattle.stores.proofs.write.state.Goals as goal

pub returns : goal.returns
unfolding offset size
returns c =
    let s = c.args in
    byte-lent s.d.now state_part s.v (omega arith) (omega arith) c.wide.ensures.0 c.put_byte.ensures
