-- `places::names::put_name` meets its contract: four bytes are lent and come back as the name's. Assumes nothing.
use Prim.Native.Nat.{◌*◌}
use mathlib.Core.Path.{◌∙◌, ap}
use native.Mathlib.Omega.{arith}
use Rattle.lists.specs.Arranged.{replaced}
use Rattle.lists.proofs.Replaced.{lent-replaced}
use Rattle.cells.proofs.Words.{four_bytes}
use Rattle.places.proofs.Lent.{name_put}
use Rattle.places.proofs.names.put_name.Goals as goal

pub returns : goal.returns
returns c =
    let s = c.args in
    lent-replaced s.t.now _ _ (4 * s.r) 4 c.copy_from_slice.ensures.after
    ∙ ap (replaced s.t.now (4 * s.r) 4) (four_bytes s.name.now (omega arith))
    ∙ name_put s.t.now s.r s.name.now (omega arith) (omega arith)
