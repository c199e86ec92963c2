-- `places::numbers::put_half` meets its contract: by the place's parity. Assumes nothing.
use borrow.Author.Tests.{eq-eqb, ne_eqb}
use Rattle.cells.specs.Words.{put_half}
use Rattle.places.proofs.numbers.put_half.Goals as goal

pub returns-then-u-eq0 : goal.returns-then-u-eq0
unfolding put_half
returns-then-u-eq0 c = rw (c.wide-b.ensures.0, eq-eqb _ _ c.if-u-eq0.true)

pub returns : goal.returns
unfolding put_half
returns c = rw (c.wide-b.ensures.0, ne_eqb _ _ c.if-u-eq0.false)
