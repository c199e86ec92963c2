-- `stores::write::caught_only` meets its contract: one part is lent and comes back written. Assumes nothing.
use native.Mathlib.Omega.{arith}
use lib.Dec.{eqb}
use Rattle.cells.specs.Flags.{put_row}
use Rattle.cells.specs.Parts.{caught_part, offset, size}
use Rattle.cells.proofs.Parts.{part-lent}
use Rattle.stores.proofs.write.caught_only.Goals as goal

pub returns : goal.returns
unfolding offset size
returns c =
    let s = c.args in
    part-lent s.d.now caught_part (λ t. put_row 8 t s.c.0 (λ y. eqb y s.r.0)) (omega arith) (omega arith) c.set_only.ensures
