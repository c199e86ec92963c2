-- `table::board::bring` meets its contract: the halves of the table are lent. Assumes nothing.
use mathlib.Core.Path.{◌∙◌, ap}
use Rattle.cells.specs.Cells.{settled_since}
use Rattle.posting.specs.Brought.{entries_posted}
use Rattle.table.specs.Halves.{cells_of, high, low}
use Rattle.table.proofs.Halves.{high-length, high_whole, low-length}
use Rattle.table.proofs.board.bring.Goals as goal

pub post_brought-requires : goal.post_brought-requires
unfolding low
post_brought-requires c =
    let t = c.args.t.now in
    (low-length t c.requires.0, c.requires.1, c.requires.2, high-length t c.requires.0, c.requires.3)

pub returns : goal.returns
unfolding low high
returns c =
    let s = c.args in
    c.post_brought.ensures
    ∙ ap (λ h. entries_posted h (settled_since s.before (cells_of s.t.now)) s.board.now) (high_whole s.t.now c.requires.0)
