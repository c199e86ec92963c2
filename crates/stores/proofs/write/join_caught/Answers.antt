-- `stores::write::join_caught` meets its contract: one part is lent and comes back written. Assumes nothing.
use native.Mathlib.Omega.{arith}
use Rattle.cells.specs.Sizes.{clients}
use Rattle.cells.specs.Flags.{flag_in, pack}
use Rattle.cells.specs.CellSteps.{join_caught}
use Rattle.cells.specs.Decode.{cells}
use Rattle.cells.specs.Parts.{caught_part, offset, size}
use Rattle.cells.proofs.Parts.{part-lent}
use Rattle.stores.proofs.write.join_caught.Goals as goal

pub returns : goal.returns
unfolding cells offset size
returns c =
    let s = c.args in
    part-lent s.d.now caught_part (λ t. pack clients (join_caught (flag_in 8 clients t) s.a.0 s.b.0)) (omega arith) (omega arith) c.join_caught.ensures
