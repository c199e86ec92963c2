-- `places::numbers::half_at` meets its contract: by the place's parity. Assumes nothing.
use native.Mathlib.Omega.{arith}
use borrow.Author.Tests.{eq-eqb, ne_eqb}
use Rattle.cells.specs.Words.{half}
use Rattle.places.proofs.numbers.half_at.Goals as goal

pub returns-then-u-eq0 : goal.returns-then-u-eq0
unfolding half
returns-then-u-eq0 c = (rw (c.wide-b.ensures.0, eq-eqb _ _ c.if-u-eq0.true), omega arith)

pub returns-else-u-eq0 : goal.returns-else-u-eq0
unfolding half
returns-else-u-eq0 c = (rw (c.wide-b.ensures.0, ne_eqb _ _ c.if-u-eq0.false), omega arith)
