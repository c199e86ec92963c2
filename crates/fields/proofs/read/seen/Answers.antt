-- `fields::read::seen` meets its contract: the flag is read in its place. Assumes nothing.
use mathlib.Core.Path.{◌∙◌, refl}
use native.Mathlib.Omega.{arith}
use Rattle.cells.specs.Decode.{cells}
use Rattle.cells.specs.Parts.{offset, seen_part, size}
use Rattle.cells.specs.Sizes.{revisions}
use Rattle.places.proofs.InPart.{flag-read}
use Rattle.fields.proofs.read.seen.Goals as goal

pub returns : goal.returns
unfolding cells offset size
returns c =
    let d = c.args.d.now in
    c.flag.ensures ∙ flag-read d seen_part revisions refl c.wide-x.ensures.0 c.wide-y.ensures.0 (omega arith) (omega arith)
