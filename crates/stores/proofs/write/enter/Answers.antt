-- `stores::write::enter` meets its contract: one part is lent and comes back written. Assumes nothing.
use native.Mathlib.Omega.{arith}
use lib.ListN.{take}
use Rattle.lists.specs.Arranged.{insert_before}
use Rattle.cells.specs.Parts.{layout_part, offset, size}
use Rattle.cells.specs.Sizes.{revisions}
use Rattle.cells.proofs.Parts.{part-lent}
use Rattle.stores.proofs.write.enter.Goals as goal

pub returns : goal.returns
unfolding offset size
returns c =
    let s = c.args in
    part-lent s.d.now layout_part (λ t. take revisions (insert_before s.parent.0 s.child.0 t)) (omega arith) (omega arith) c.put_in.ensures
