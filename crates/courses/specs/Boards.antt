-- 02, U12: "Each course has its own board, lent to its calls only." Of such a board U10 holds: it is right at every moment.
use Rattle.std.specs.Prelude.{ℕ, Bool, true, cond, ◌≡◌, List, [], ◌∷◌, ◌++◌}
use Rattle.plain.specs.Record.{fresh_day}
use Rattle.plain.specs.Boards.{Right}
use Rattle.table.specs.Lent.{board_lent}
use Rattle.consistency.specs.Boards.{takes_board}
use Rattle.card.specs.Courses.{Ask, CourseCall, Fresh, Plain, Tables}
use Rattle.courses.specs.Heard.{Heard, heard}
use Rattle.courses.specs.Days.{day_to, entered_all}

abbrev pub takes : Ask → Bool
takes (Fresh single board) = true
takes (Plain q) = takes_board q

abbrev pub board_asked : Ask → List ℕ
board_asked (Fresh single board) = board
board_asked (Plain q) = board_lent q

-- the board after a call; one that is not lent stays
abbrev pub board_next : Heard → List ℕ → List ℕ
board_next h board = cond (takes h.ask) h.got.board board

-- each call of the course that takes a board has it as the last one left it
unfoldable pub OneBoard : List ℕ → List Heard → Type 0
OneBoard board [] = Unit {0}
OneBoard board (h ∷ hs) = (takes h.ask ≡ true → board_asked h.ask ≡ board) × OneBoard (board_next h board) hs

unfoldable pub board_to : List ℕ → List Heard → List ℕ
board_to board [] = board
board_to board (h ∷ hs) = board_to (board_next h board) hs

-- from where the course was made fresh with the board, through refused calls and a further fresh too
abbrev pub BoardsStayRight : Type 0
BoardsStayRight =
    (i : ℕ) (ts : Tables) (cs : List CourseCall) (early later : List Heard) (h : Heard) (single : Bool) (board : List ℕ)
    → heard i ts cs ≡ early ++ (h ∷ later) → h.ask ≡ Fresh single board → h.got.reply.code ≡ 0
    → OneBoard h.got.board later → Right (day_to (fresh_day single) (entered_all later)) (board_to h.got.board later)
