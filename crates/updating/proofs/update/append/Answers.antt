-- `updating::update::append` meets its contract: the lower half is lent and comes back written. Assumes nothing.
use Rattle.cells.specs.Steps.{update_bytes}
use Rattle.table.specs.Halves.{low}
use Rattle.table.proofs.Halves.{low-lent}
use borrow.Author.Rules.{rules}
use Rattle.updating.proofs.update.append.Goals as goal

pub update-requires : goal.update-requires
unfolding low
update-requires c =
    (search rules, c.requires.1, c.requires.2, c.requires.3, c.requires.4)

pub returns : goal.returns
unfolding low
returns c =
    let s = c.args in
    (c.update.ensures.0, low-lent (λ d. update_bytes d s.c.0 s.r.0) s.t.now _ c.update.ensures.1)
