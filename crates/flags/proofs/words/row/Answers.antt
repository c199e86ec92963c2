-- `flags::words::row` meets its contract: the row's bytes are the number's. Assumes nothing.
use mathlib.Core.Path.{◌∙◌}
use Rattle.flags.proofs.Digits.{word_row}
use Rattle.flags.proofs.words.row.Goals as goal

pub returns : goal.returns
returns c = c.to_le_bytes.ensures ∙ word_row c.args.word
