-- `beside::others::most` meets its contract: the test decides. Assumes nothing.
use borrow.Author.Tests.{le-ltb, lt-ltb}
use Rattle.card.specs.Room as Room
use Rattle.beside.proofs.others.most.Goals as goal

pub returns-then-others : goal.returns-then-others
unfolding Room.most
returns-then-others c = rw (lt-ltb _ _ c.if-others.true)

pub returns : goal.returns
unfolding Room.most
returns c = rw (le-ltb _ _ c.if-others.false)
