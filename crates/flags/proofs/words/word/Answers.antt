-- `flags::words::word` meets its contract: the number's bytes are the row's. Assumes nothing.
use mathlib.Core.Path.{◌∙◌, ap}
use borrow.Author.Rules.{rules}
use Rattle.cells.specs.Flags.{bit}
use Rattle.flags.proofs.Digits.{told_all}
use Rattle.flags.proofs.words.word.Goals as goal

pub returns : goal.returns
returns c y h = ap (λ n. bit n y) c.from_le_bytes.ensures ∙ told_all c.args.row (search rules) y h
