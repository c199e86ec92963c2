-- `announcing::sync::sync` meets its contract: codes 1 and 19, then the other checks and the work. Assumes nothing.
use mathlib.Core.Path.{◌∙◌, ap, sym}
use borrow.Author.Rules.{rules}
use lib.ListN.{length}
use Rattle.std.specs.Prelude.{Err}
use Rattle.table.specs.Calls.{sync_out}
use Rattle.table.specs.declared.refusal.Refusal.TheVariants.{NoTable, WrongBoard}
use Rattle.boards.specs.Board.{board_bytes}
use Rattle.table.proofs.Brings.{brought-out, can-bring, sync-shows}
use Rattle.table.proofs.Buffer.{board-long, board-wrong, is-table, no_table}
use Rattle.table.proofs.Light.{light_syncs}
use Rattle.announcing.proofs.Calls.{no-sync, not-shown, shown, wrong-sync}
use Rattle.announcing.proofs.sync.sync.Goals as goal

pub returns-in_default : goal.returns-in_default
returns-in_default c =
    let s = c.args in
    let light = light_syncs s.t.now (search rules) s.joinee (length s.board.now) in
    not-shown light (Err NoTable) _ (no-sync _ _ (no_table _ (sym c.check_table.ensures ∙ c.in_default.is)) _)

pub returns-in_default-check_board : goal.returns-in_default-check_board
returns-in_default-check_board c =
    let s = c.args in
    let light = light_syncs s.t.now (search rules) s.joinee (length s.board.now) in
    let h = is-table _ (sym c.check_table.ensures ∙ c.in-Sound.is) in
    not-shown light (Err WrongBoard) _ (wrong-sync _ _ h.0 (board-wrong _ (sym c.check_board.ensures ∙ c.in_default-check_board.is)) _)

pub bring-requires : goal.bring-requires
bring-requires c =
    let s = c.args in
    let h = is-table _ (sym c.check_table.ensures ∙ c.in-Sound.is) in
    let b = can-bring s.t.now _ _ c.settled-before.ensures c.sync_sound-answer.result _ c.sync_sound-answer.ensures (sync-shows s.t.now h.0 s.joinee board_bytes) in
    (b.0, b.1, b.2, board-long _ (sym c.check_board.ensures ∙ c.in-Sound-check_board.is))

pub returns : goal.returns
returns c =
    let s = c.args in
    let light = light_syncs s.t.now (search rules) s.joinee (length s.board.now) in
    let l = board-long _ (sym c.check_board.ensures ∙ c.in-Sound-check_board.is) in
    let board = brought-out s.t.now _ _ c.settled-before.ensures s.board.now _ c.bring.ensures in
    shown light _ _ _ _ (c.sync_sound-answer.ensures ∙ ap (sync_out s.t.now s.joinee) (sym l)) board
