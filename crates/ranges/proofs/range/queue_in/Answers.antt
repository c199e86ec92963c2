-- `ranges::range::queue_in` meets its contract: the flag says whether the places so far are in range. Assumes nothing.
use mathlib.Core.Path.{◌≡◌, refl}
use native.Mathlib.Omega.{arith}
use Rattle.cells.specs.Parts.{offset, size, split}
use Rattle.cells.specs.Tables.{every}
use Rattle.ranges.proofs.Flags.{every-next}
use Rattle.ranges.proofs.range.queue_in.Goals as goal

pub loop-n-init : goal.loop-n-init
unfolding every
loop-n-init c = refl

pub loop-n-preserved : goal.loop-n-preserved
loop-n-preserved c =
    let l = c.loop-n in
    every-next _ l.n-index l.invariant refl

pub returns : goal.returns
unfolding split offset size
returns c =
    let l = c.loop-n in
    let e : l.n-index ≡ 64 = omega arith in
    rw e at l.invariant
