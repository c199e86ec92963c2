-- The number of entries falls at each call of `gather`. Assumes nothing.
use Rattle.order.proofs.links.+gather.Given as goal

abbrev pub decreases-gather : goal.decreases-gather
decreases-gather l = l.n
