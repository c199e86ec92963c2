-- `revisions::fork::fork` meets its contract: the branch, and one box more. Assumes nothing.
use Prim.Native.Nat.{suc}
use mathlib.Core.Bool.{cond}
use mathlib.Core.Path.{◌∙◌, ap}
use lib.Dec.{ltb}
use Rattle.cells.specs.Decode.{cells}
use Rattle.revisions.proofs.Writes.{fork-done}
use Rattle.revisions.proofs.fork.fork.Goals as goal

pub returns : goal.returns
unfolding cells
returns c =
    let s = c.args in
    fork-done s.d.now c.requires.0 _ _ s.parent.0 s.child.0 c.one_more-started.result c.requires.4
    (c.one_more-started.ensures.0 ∙ ap (λ n. cond (ltb n 65535) (suc n) n) c.started.ensures.0) c.branch-d.ensures c.started-2.ensures
