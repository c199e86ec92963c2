-- `posting::brought::post_all` meets its contract: one entry more at each turn. Assumes nothing.
use mathlib.Core.Path.{◌≡◌}
use lib.ListN.{length, take}
use Rattle.boards.specs.Board.{board_bytes}
use Rattle.posting.specs.Brought.{entries_posted}
use Rattle.posting.proofs.brought.post_all.Given as goal

abbrev pub invariant-loop-n : goal.invariant-loop-n
invariant-loop-n l = (l.board ≡ entries_posted l.t (take l.n-index l.order) l.initial.board) × (length l.board ≡ board_bytes)
