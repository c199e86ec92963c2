-- `fields::read::link` meets its contract: low and high parts are read in their places. Assumes nothing.
use native.Mathlib.Omega.{arith}
use lib.ListN.{length-drop, length-take}
use Rattle.cells.specs.Decode.{cells}
use Rattle.cells.specs.Parts.{offset, size, split}
use Rattle.fields.proofs.read.link.Goals as goal

pub half_at-high-requires : goal.half_at-high-requires
half_at-high-requires c = rw (length-take, length-drop) (omega arith)

pub overflow_mul-result : goal.overflow_mul-result
overflow_mul-result c = let h = c.half_at-high.ensures.1 in omega arith

pub overflow_add-result : goal.overflow_add-result
overflow_add-result c = let h = c.half_at-high.ensures.1 in let l = c.byte_at-low.ensures.1 in omega arith

pub returns : goal.returns
unfolding cells offset size split
returns c =
    let low = c.byte_at-low.ensures in
    let high = c.half_at-high.ensures in
    (rw (low.0, high.0), let l = c.byte_at-low.ensures.1 in let h = c.half_at-high.ensures.1 in omega arith)
