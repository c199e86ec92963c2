-- `revisions::fork::branch` meets its contract: the pieces in a row. Assumes nothing.
use native.Mathlib.Omega.{arith}
use borrow.Author.Rules.{rules}
use Rattle.cells.specs.Decode.{cells}
use Rattle.cells.proofs.Range.{ranges}
use Rattle.revisions.proofs.Writes.{branch-done}
use Rattle.revisions.proofs.fork.branch.Goals as goal

pub start-requires : goal.start-requires
start-requires c =
    let o = (ranges c.args.d.now c.requires.1).most_out in
    let e = c.out-out.ensures.0 in
    (search rules, c.requires.2, c.requires.4, omega arith)

pub use_number-requires : goal.use_number-requires
use_number-requires c =
    let g = (ranges c.args.d.now c.requires.1).most_given in
    let e = c.given-given.ensures.0 in
    (search rules, omega arith)

pub returns : goal.returns
unfolding cells
returns c =
    let s = c.args in
    branch-done s.d.now c.requires.0 _ _ _ s.parent.0 s.child.0 c.out-out.result c.given-given.result c.requires.4
    c.out-out.ensures.0 c.given-given.ensures.0 c.inherit.ensures c.start.ensures c.use_number.ensures
