-- `order::whole::fits` meets its contract: what the lists from place `i` on have is to go into what is left. Assumes nothing.
use Prim.Native.Nat.{◌+◌}
use mathlib.Core.Path.{ap}
use native.Mathlib.Omega.{arith}
use lib.ListN.{drop}
use borrow.Author.Tests.{le-ltb, lt-ltb}
use Rattle.cells.specs.Cells.{outs}
use Rattle.cells.specs.Decode.{cells}
use Rattle.cells.specs.Sizes.{updates}
use Rattle.cells.proofs.Range.{ranges}
use Rattle.order.specs.Counts.{counts}
use Rattle.order.proofs.Behind.{from_place, past-places}
use Rattle.order.proofs.whole.fits.Goals as goal

pub overflow_sub-left : goal.overflow_sub-left
overflow_sub-left c =
    let r = (ranges c.args.d.now c.requires.1).count c.args.r.0 c.requires.2 in
    omega (arith, c.count-left.ensures.0)

pub loop-i-init : goal.loop-i-init
loop-i-init c = (c.out-n.ensures.0, omega arith, omega arith)

pub at_place-requires : goal.at_place-requires
at_place-requires c =
    let r = (ranges c.args.d.now c.requires.1).most_out in
    (c.requires.0, c.requires.1, omega arith)

pub returns-then-left-many : goal.returns-then-left-many
returns-then-left-many c =
    let s = c.args in
    let k = cells s.d.now in
    let l = c.loop-i in
    let e = ap (counts k) (from_place s.d.now c.requires.0 c.requires.1 l.i _ (omega arith) c.at_place.ensures.0) in
    let m = c.count-many.ensures.0 in
    let total = counts k (drop (s.j + 1) (outs k)) + k.count s.r.0 in
    rw (lt-ltb updates total (omega (arith, c.count-left.ensures.0)))

pub loop-i-preserved : goal.loop-i-preserved
loop-i-preserved c =
    let s = c.args in
    let l = c.loop-i in
    let e = ap (counts (cells s.d.now)) (from_place s.d.now c.requires.0 c.requires.1 l.i _ (omega arith) c.at_place.ensures.0) in
    let m = c.count-many.ensures.0 in
    (l.invariant.0, omega arith, omega arith)

pub returns : goal.returns
returns c =
    let s = c.args in
    let k = cells s.d.now in
    let l = c.loop-i in
    let r = (ranges s.d.now c.requires.1).count s.r.0 c.requires.2 in
    let e = ap (counts k) (past-places s.d.now c.requires.0 c.requires.1 l.i (omega arith)) in
    let total = counts k (drop (s.j + 1) (outs k)) + k.count s.r.0 in
    rw (le-ltb updates total (omega (arith, c.count-left.ensures.0)))
