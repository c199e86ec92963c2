-- `ranges::range::bytes_below` meets its contract: the flag says whether the bytes so far are below the limit. Assumes nothing.
use mathlib.Core.Path.{◌≡◌, refl}
use native.Mathlib.Omega.{arith}
use Rattle.lists.proofs.Replaced.{lent-size}
use Rattle.cells.specs.Tables.{every}
use Rattle.ranges.proofs.Flags.{every-next}
use Rattle.ranges.proofs.range.bytes_below.Goals as goal

pub loop-b-init : goal.loop-b-init
unfolding every
loop-b-init c = refl

pub loop-b-preserved : goal.loop-b-preserved
loop-b-preserved c =
    let l = c.loop-b in
    every-next _ l.b-index l.invariant refl

pub returns : goal.returns
returns c =
    let l = c.loop-b in
    let e : l.b-index ≡ c.args.n = omega arith in
    rw (e, lent-size) at l.invariant
