-- `flags::change::without` meets its contract: byte by byte. Assumes nothing.
use mathlib.Core.Bool.{◌&&◌, not}
use mathlib.Core.Path.{◌∙◌}
use Rattle.cells.specs.Words.{byte}
use Rattle.flags.proofs.Bytes.{same_bytes, row_made}
use Rattle.flags.proofs.change.without.Goals as goal

pub returns : goal.returns
returns c =
    let s = c.args in
    row_made c.both.result _ c.both.ensures.0 (λ k h. c.both.ensures.1 k h ∙ same_bytes (λ x y. x && not y) (byte s.a) (byte s.b) k)
