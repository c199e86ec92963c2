-- `stores::write::name` meets its contract: one part is lent and comes back written. Assumes nothing.
use native.Mathlib.Omega.{arith}
use Rattle.cells.specs.Parts.{names_part, offset, size}
use Rattle.cells.specs.Words.{put_name}
use Rattle.places.proofs.InPart.{lent_at}
use Rattle.stores.proofs.write.name.Goals as goal

pub returns : goal.returns
unfolding offset size
returns c =
    let s = c.args in
    lent_at s.d.now names_part (λ r t. put_name t r s.name.now) (omega arith) (omega arith) c.wide.ensures.0 c.put_name.ensures
