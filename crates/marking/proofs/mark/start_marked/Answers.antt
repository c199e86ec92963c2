-- `marking::mark::start_marked` meets its contract: the lower half is lent and comes back written. Assumes nothing.
use borrow.Author.Rules.{rules}
use Rattle.cells.specs.Steps.{mark_bytes}
use Rattle.table.specs.Halves.{low}
use Rattle.table.proofs.Halves.{low-lent}
use Rattle.marking.proofs.mark.start_marked.Goals as goal

pub mark-requires : goal.mark-requires
unfolding low
mark-requires c = search rules

pub returns : goal.returns
returns c =
    let s = c.args in
    low-lent (λ d. mark_bytes d s.p.0 s.c.0 s.name.now) s.t.now _ c.mark.ensures
