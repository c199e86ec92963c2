-- `stores::write::leave` meets its contract: one part is lent and comes back written. Assumes nothing.
use mathlib.Core.List.{[], ◌++◌, ◌∷◌}
use native.Mathlib.Omega.{arith}
use lib.ListN.{take}
use Rattle.lists.specs.Arranged.{remove}
use Rattle.cells.specs.Parts.{layout_part, offset, size}
use Rattle.cells.specs.Sizes.{revisions}
use Rattle.cells.proofs.Parts.{part-lent}
use Rattle.stores.proofs.write.leave.Goals as goal

pub returns : goal.returns
unfolding offset size
returns c =
    let s = c.args in
    part-lent s.d.now layout_part (λ t. take revisions (remove s.b.0 t ++ (0 ∷ []))) (omega arith) (omega arith) c.take_out.ensures
