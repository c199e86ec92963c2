-- `stores::write::count` meets its contract: one part is lent and comes back written. Assumes nothing.
use native.Mathlib.Omega.{arith}
use Rattle.cells.specs.Parts.{count_part, offset, size}
use Rattle.places.proofs.InPart.{word-lent}
use Rattle.stores.proofs.write.count.Goals as goal

pub returns : goal.returns
unfolding offset size
returns c =
    let s = c.args in
    word-lent s.d.now count_part s.v (omega arith) (omega arith) c.wide.ensures.0 c.put_word.ensures
