-- `stores::write::queued` meets its contract: one part is lent and comes back written. Assumes nothing.
use native.Mathlib.Omega.{arith}
use lib.ListN.{set}
use Rattle.cells.specs.Parts.{offset, queue_part, size}
use Rattle.cells.proofs.Parts.{part-lent}
use Rattle.stores.proofs.write.queued.Goals as goal

pub returns : goal.returns
unfolding offset size
returns c =
    let s = c.args in
    part-lent s.d.now queue_part (λ t. set t s.i s.b.0) (omega arith) (omega arith) (rw c.wide.ensures.0 at c.put_byte.ensures)
