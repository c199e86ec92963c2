-- `stores::write::link_high` meets its contract: one part is lent and comes back written. Assumes nothing.
use native.Mathlib.Omega.{arith}
use Rattle.cells.specs.Parts.{high_part, offset, size}
use Rattle.cells.specs.Words.{put_half}
use Rattle.cells.proofs.Parts.{part-lent}
use Rattle.stores.proofs.write.link_high.Goals as goal

pub returns : goal.returns
unfolding offset size
returns c =
    let s = c.args in
    part-lent s.d.now high_part (λ t. put_half t s.u s.v) (omega arith) (omega arith) c.put_half.ensures
