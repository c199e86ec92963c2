-- `announcing::yields::yields` meets its contract: 1, then 19, then the rest. Assumes nothing.
use mathlib.Core.Path.{◌∙◌, ap, sym}
use Rattle.table.specs.Calls.{yield_out}
use Rattle.boards.specs.Board.{board_bytes}
use Rattle.table.proofs.Brings.{brings-nothing, brought-out, can-bring, yield-shows}
use Rattle.table.proofs.Buffer.{board-long, board-wrong, is-table, no_table}
use Rattle.announcing.proofs.Sends.{no-yield, wrong-yield}
use Rattle.announcing.proofs.yields.yields.Goals as goal

pub returns-in_default : goal.returns-in_default
returns-in_default c = (no-yield _ _ (no_table _ (sym c.check_table.ensures ∙ c.in_default.is)) _, sym (brings-nothing _ _))

pub returns-in_default-check_board : goal.returns-in_default-check_board
returns-in_default-check_board c =
    let h = (is-table _ (sym c.check_table.ensures ∙ c.in-Sound.is)).0 in
    (wrong-yield _ _ h (board-wrong _ (sym c.check_board.ensures ∙ c.in_default-check_board.is)) _, sym (brings-nothing _ _))

pub bring-requires : goal.bring-requires
bring-requires c =
    let s = c.args in
    let h = is-table _ (sym c.check_table.ensures ∙ c.in-Sound.is) in
    let b = can-bring s.t.now _ _ c.settled-before.ensures c.yield_sound-answer.result _ c.yield_sound-answer.ensures (yield-shows s.t.now h.0 s.client board_bytes) in
    (b.0, b.1, b.2, board-long _ (sym c.check_board.ensures ∙ c.in-Sound-check_board.is))

pub returns : goal.returns
returns c =
    let s = c.args in
    let long = board-long _ (sym c.check_board.ensures ∙ c.in-Sound-check_board.is) in
    (c.yield_sound-answer.ensures ∙ ap (yield_out s.t.now s.client) (sym long), brought-out s.t.now _ _ c.settled-before.ensures s.board.now _ c.bring.ensures)
