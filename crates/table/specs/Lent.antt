-- The board that a call is lent: a refusal leaves it as it was. The claims about refusals and about four tables go by it.
use Rattle.std.specs.Prelude.{ℕ, List, []}
use Rattle.desk.specs.Calls.{Call, Update, Query, Yield, Fork, Join, Sync, Mark, Drop, Bundle, Looks}

-- none where it takes none
abbrev pub board_lent : Call (List ℕ) → List ℕ
board_lent (Update c n k bib v) = []
board_lent (Query c n bib) = []
board_lent (Yield c board) = board
board_lent (Fork n) = []
board_lent (Join n m board) = board
board_lent (Sync m board) = board
board_lent (Mark n name) = []
board_lent (Drop name) = []
board_lent (Bundle c n batch board) = board
board_lent (Looks l) = []
