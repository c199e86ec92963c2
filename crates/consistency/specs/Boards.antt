-- 02, U10, at a table made fresh: "On a day as in demand 3, a board that was right before any call, and is lent to it if it takes one, is right after it". What
-- is right is said on the plain day (crate `plain`).
use Rattle.std.specs.Prelude.{ℕ, Bool, true, false, cond, ◌≡◌, List, [], ◌∷◌, ◌++◌, length}
use Rattle.boards.specs.Board.{board_bytes}
use Rattle.desk.specs.Calls.{Call, Update, Query, Yield, Fork, Join, Sync, Mark, Drop, Bundle, Looks, call_on}
use Rattle.plain.specs.Record.{PlainDay}
use Rattle.plain.specs.Answers.{called, day_after}
use Rattle.plain.specs.Boards.{Brings, Right}
use Rattle.table.specs.Out.{table_bytes}
use Rattle.table.specs.Calls.{fresh_board, fresh_out}
use Rattle.table.specs.Served.{served}
use Rattle.consistency.specs.Table.{calls}

-- "Fresh, yield, bundle, join and sync take it, no other call"
abbrev pub takes_board : Call (List ℕ) → Bool
takes_board (Update c n k bib v) = false
takes_board (Query c n bib) = false
takes_board (Yield c board) = true
takes_board (Fork n) = false
takes_board (Join n m board) = true
takes_board (Sync m board) = true
takes_board (Mark n name) = false
takes_board (Drop name) = false
takes_board (Bundle c n batch board) = true
takes_board (Looks l) = false

-- "is lent to it if it takes one": the call with this board
abbrev pub lent : List ℕ → Call (List ℕ) → Call (List ℕ)
lent board (Update c n k bib v) = Update c n k bib v
lent board (Query c n bib) = Query c n bib
lent board (Yield c other) = Yield c board
lent board (Fork n) = Fork n
lent board (Join n m other) = Join n m board
lent board (Sync m other) = Sync m board
lent board (Mark n name) = Mark n name
lent board (Drop name) = Drop name
lent board (Bundle c n batch other) = Bundle c n batch board
lent board (Looks l) = Looks l

-- the board after a call that it was lent to; a board that is not lent stays
abbrev pub board_left : List ℕ → Call (List ℕ) → List ℕ → List ℕ
board_left t q board = cond (takes_board q) (served t (lent board q)).board board

-- the day after a call with this board
abbrev pub day_next : PlainDay → Call (List ℕ) → List ℕ → PlainDay
day_next p q board = (called p (call_on length (lent board q))).next

-- any call at table t, which stands for day p; refused ones too
pub record KeepsBoard (p : PlainDay) (t : List ℕ) (q : Call (List ℕ)) (board : List ℕ) : Type 0 where
  pub stays_right : Right p board → Right (day_next p q board) (board_left t q board)
  -- what becomes of a board that was right or not
  pub brings : length board ≡ board_bytes → Brings p (day_next p q board) board (board_left t q board)

-- calls that each have the board lent as the last one left it, and that board at their end
unfoldable pub lent_all : List ℕ → List ℕ → List (Call (List ℕ)) → List (Call (List ℕ))
lent_all t board [] = []
lent_all t board (q ∷ qs) = lent board q ∷ lent_all (served t (lent board q)).table (board_left t q board) qs

unfoldable pub board_from : List ℕ → List ℕ → List (Call (List ℕ)) → List ℕ
board_from t board [] = board
board_from t board (q ∷ qs) = board_from (served t (lent board q)).table (board_left t q board) qs

-- "Fresh clears it", and then it is right at every moment
abbrev pub RightThroughout : Type 0
RightThroughout =
    (t : List ℕ) → length t ≡ table_bytes → (single : Bool) (board : List ℕ) → length board ≡ board_bytes
    → (qs before rest : List (Call (List ℕ))) → qs ≡ before ++ rest
    → Right (day_after single (calls (lent_all (fresh_out t single (length board)).lent (fresh_board t single board) before))) (board_from (fresh_out t single (length board)).lent (fresh_board t single board) before)
