-- `handing::drop::queue_end` meets its contract: both counts are in range. Assumes nothing.
use native.Mathlib.Omega.{arith}
use Rattle.cells.proofs.Range.{ranges}
use Rattle.handing.proofs.drop.queue_end.Goals as goal

pub returns : goal.returns
returns c =
    let r = ranges c.args.d.now c.requires.1 in
    let a = r.most_given in
    let b = r.some_out in
    let g = c.given.ensures.0 in
    let o = c.out.ensures.0 in
    (omega arith, omega arith)
