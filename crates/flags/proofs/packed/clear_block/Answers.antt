-- `flags::packed::clear_block` meets its contract: what was loaded, changed and stored. Assumes nothing.
use mathlib.Core.Path.{◌∙◌}
use Rattle.flags.proofs.Laws.{clear_stored}
use Rattle.flags.proofs.packed.clear_block.Goals as goal

pub returns : goal.returns
returns c =
    let s = c.args in
    let loaded = c.load16-s in
    let changed = c.clear-z in
    c.store16.ensures ∙ clear_stored s.t.now s.w loaded.result changed.result loaded.ensures changed.ensures
