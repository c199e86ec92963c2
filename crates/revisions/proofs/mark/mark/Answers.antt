-- `revisions::mark::mark` meets its contract: the branch, then state and name. Assumes nothing.
use Rattle.revisions.proofs.Writes.{mark-done}
use Rattle.revisions.proofs.mark.mark.Goals as goal

pub returns : goal.returns
returns c =
    let s = c.args in
    mark-done s.d.now c.requires.0 _ _ _ s.parent.0 s.mark.0 s.name.now c.requires.4
    c.branch-d.ensures c.state.ensures c.name.ensures
