-- `revisions::fork::start` meets its contract: the writes in a row. Assumes nothing.
use Rattle.cells.specs.Decode.{cells}
use Rattle.revisions.proofs.Writes.{start-done}
use Rattle.revisions.proofs.fork.start.Goals as goal

pub returns : goal.returns
unfolding cells
returns c =
    let s = c.args in
    start-done s.d.now c.requires.0 _ _ _ _ _ s.parent.0 s.child.0 s.out c.fork_seen.ensures c.fork_caught.ensures c.state.ensures c.enter.ensures c.out.ensures
