-- `fields::read::caught` meets its contract: the flag is read in its place. Assumes nothing.
use mathlib.Core.Path.{◌∙◌, refl}
use native.Mathlib.Omega.{arith}
use Rattle.cells.specs.Decode.{cells}
use Rattle.cells.specs.Parts.{offset, caught_part, size}
use Rattle.cells.specs.Sizes.{clients}
use Rattle.places.proofs.InPart.{flag-read}
use Rattle.fields.proofs.read.caught.Goals as goal

pub returns : goal.returns
unfolding cells offset size
returns c =
    let d = c.args.d.now in
    c.flag.ensures ∙ flag-read d caught_part clients refl c.wide-x.ensures.0 c.wide-y.ensures.0 (omega arith) (omega arith)
