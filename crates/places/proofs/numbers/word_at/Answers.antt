-- `places::numbers::word_at` meets its contract: two bytes, the low one first. Assumes nothing.
use native.Mathlib.Omega.{arith}
use Rattle.cells.specs.Words.{word}
use Rattle.places.proofs.numbers.word_at.Goals as goal

pub returns : goal.returns
unfolding word
returns c = (omega arith, omega arith)
