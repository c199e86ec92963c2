-- `updating::update::put` meets its contract: the two halves, one after the other. Assumes nothing.
use Prim.Native.Nat.{◌<◌}
use mathlib.Core.Path.{◌∙◌}
use Rattle.cells.specs.Steps.{update_bytes}
use Rattle.table.specs.Halves.{low}
use Rattle.updating.proofs.Stored.{below, put_done}
use borrow.Author.Rules.{rules}
use Rattle.updating.proofs.update.put.Goals as goal

pub store-requires : goal.store-requires
store-requires c =
    (c.append-u.auto.t ∙ c.requires.0, below _ _ c.append-u.ensures.0 c.requires.4, c.requires.2, c.requires.5)

pub overflow_cast-result : goal.overflow_cast-result
overflow_cast-result c =
    let u : c.append-u.result < 4096 = below _ _ c.append-u.ensures.0 c.requires.4 in
    search rules

pub returns : goal.returns
returns c =
    let t = c.args.t.now in
    let lower = update_bytes (low t) c.args.c.0 c.args.r.0 in
    let a = c.append-u in
    (a.ensures.0, put_done t a.new.t _ lower _ _ _ c.requires.0 (a.auto.t ∙ c.requires.0) a.ensures.0 a.ensures.1 c.store.ensures)
