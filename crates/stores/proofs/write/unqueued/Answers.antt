-- `stores::write::unqueued` meets its contract: one part is lent and comes back written. Assumes nothing.
use mathlib.Core.Path.{◌∙◌}
use mathlib.Core.List.{[], ◌++◌, ◌∷◌}
use native.Mathlib.Omega.{arith}
use borrow.Rule.Slice.PartMut.{mid_of}
use Rattle.lists.specs.Lists.{rest_of}
use Rattle.cells.specs.Parts.{offset, queue_part, size}
use Rattle.cells.proofs.Parts.{part-lent}
use Rattle.places.proofs.Moved.{first_closed}
use Rattle.stores.proofs.write.unqueued.Goals as goal

pub returns : goal.returns
unfolding offset size
returns c =
    let d = c.args.d.now in
    let queue = mid_of (offset queue_part) (size queue_part) d in
    part-lent d queue_part (λ t. rest_of t ++ (1 ∷ [])) (omega arith) (omega arith) (c.close.ensures ∙ first_closed queue 1)
