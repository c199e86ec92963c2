-- `announcing::fresh::fresh` meets its contract: codes 1 and 19, then the work. Assumes nothing.
use mathlib.Core.Path.{◌∙◌, sym}
use Rattle.table.proofs.Buffer.{board-long, length-told}
use Rattle.announcing.proofs.Calls.{fresh-begun}
use Rattle.announcing.proofs.fresh.fresh.Goals as goal

pub returns : goal.returns
returns c =
    fresh-begun _ _ _ _ _ ((length-told _).holds (sym c.check_length.ensures ∙ c.in-Right.is))
    (board-long _ (sym c.check_board.ensures ∙ c.in-Sound.is)) c.start.ensures c.clear.ensures
