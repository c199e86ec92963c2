-- `stores::write::join_seen` meets its contract: one part is lent and comes back written. Assumes nothing.
use native.Mathlib.Omega.{arith}
use Rattle.lists.specs.Pool.{join_pool}
use Rattle.cells.specs.Sizes.{revisions}
use Rattle.cells.specs.Flags.{flag_in, put_row}
use Rattle.cells.specs.Decode.{cells}
use Rattle.cells.specs.Parts.{seen_part, offset, size}
use Rattle.cells.proofs.Parts.{part-lent}
use Rattle.stores.proofs.write.join_seen.Goals as goal

pub returns : goal.returns
unfolding cells offset size
returns c =
    let s = c.args in
    part-lent s.d.now seen_part (λ t. put_row 8 t s.a.0 (join_pool (flag_in 8 revisions t) s.a.0 s.b.0 s.a.0)) (omega arith) (omega arith) c.join_seen.ensures
