-- `flags::packed::join_caught` meets its contract: what was loaded, changed and stored. Assumes nothing.
use mathlib.Core.Path.{◌∙◌}
use native.Mathlib.Omega.{arith}
use Rattle.flags.proofs.Laws.{join-caught-stored}
use Rattle.flags.proofs.packed.join_caught.Goals as goal

pub returns : goal.returns
returns c =
    let s = c.args in
    let loaded = c.load16-s in
    let changed = c.join_caught-z in
    c.store16.ensures
    ∙ join-caught-stored s.t.now loaded.result changed.result s.a.0 s.b.0 (omega arith) (omega arith) loaded.ensures changed.ensures
