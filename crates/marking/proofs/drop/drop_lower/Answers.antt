-- `marking::drop::drop_lower` meets its contract: the lower half is lent and comes back written. Assumes nothing.
use borrow.Author.Rules.{rules}
use Rattle.cells.specs.Steps.{drop_bytes}
use Rattle.table.specs.Halves.{low}
use Rattle.table.proofs.Halves.{low-lent}
use Rattle.marking.proofs.drop.drop_lower.Goals as goal

pub drop-requires : goal.drop-requires
unfolding low
drop-requires c = search rules

pub returns : goal.returns
returns c =
    let s = c.args in
    low-lent (λ d. drop_bytes d s.r.0) s.t.now _ c.drop.ensures
