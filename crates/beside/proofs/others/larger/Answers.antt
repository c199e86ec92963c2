-- `beside::others::larger` meets its contract: it is the library's larger of the two. Assumes nothing.
use Rattle.std.proofs.Common.{rules}
use Rattle.card.specs.Log as Log
use Rattle.beside.proofs.others.larger.Goals as goal

pub returns : goal.returns
unfolding Log.larger
returns c = search rules
