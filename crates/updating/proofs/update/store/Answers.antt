-- `updating::update::store` meets its contract: the high half is lent and comes back. Assumes nothing.
use Rattle.table.specs.Halves.{low, high}
use Rattle.updating.proofs.Stored.{store_done}
use Rattle.updating.proofs.update.store.Goals as goal

pub returns : goal.returns
unfolding low high
returns c =
    store_done c.args.t.now _ _ _ c.requires.0 c.write.ensures
