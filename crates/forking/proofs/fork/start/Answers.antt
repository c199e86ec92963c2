-- `forking::fork::start` meets its contract: the lower half is lent and comes back written. Assumes nothing.
use borrow.Author.Rules.{rules}
use Rattle.cells.specs.Steps.{fork_bytes}
use Rattle.table.specs.Halves.{low}
use Rattle.table.proofs.Halves.{low-lent}
use Rattle.forking.proofs.fork.start.Goals as goal

pub fork-requires : goal.fork-requires
unfolding low
fork-requires c = search rules

pub returns : goal.returns
returns c =
    let s = c.args in
    low-lent (λ d. fork_bytes d s.p.0 s.c.0) s.t.now _ c.fork.ensures
