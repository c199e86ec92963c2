-- 02, U12: what a call on four tables answers and leaves. It is the call on its course's table, by the definitions of the calls as they stand, but for 1 and 20.
use Rattle.std.specs.Prelude.{ℕ, zero, suc, Bool, cond, not, ◌||◌, List, [], ltb, length}
use Rattle.lists.specs.Lists.{changed}
use Rattle.lists.specs.Sums.{any_below}
use Rattle.desk.specs.Calls.{Call, Update, Query, Yield, Fork, Join, Sync, Mark, Drop, Bundle, Looks, plainly}
use Rattle.table.specs.Halves.{is_table}
use Rattle.table.specs.Calls.{fresh_board, fresh_out}
use Rattle.table.specs.Served.{Served, on_board, on_table, out_reply, served, sheet_of}
use Rattle.table.specs.Lent.{board_lent}
use Rattle.table.specs.Shared.{batch_shared, count_in, update_shared}
use Rattle.card.specs.Log.{courses, passes}

-- the four tables, by the numbers of their courses
abbrev pub Tables : Type 0
Tables = ℕ → List ℕ

-- the four tables that a call is lent
unfoldable pub four : List ℕ → List ℕ → List ℕ → List ℕ → Tables
four a b c d zero = a
four a b c d (suc zero) = b
four a b c d (suc (suc zero)) = c
four a b c d (suc (suc (suc n))) = d

-- the updates that each has taken
abbrev pub counts : Tables → ℕ → ℕ
counts ts i = count_in (ts i)

-- 1: "another number gives 1, as does any of the four buffers that meets 1's condition"
unfoldable pub no_course : Tables → ℕ → Bool
no_course ts i = not (ltb i courses) || any_below courses (λ j. not (is_table (ts j)))

-- "(for fresh: its own length only)", which the table's fresh asks: the number alone
unfoldable pub no_fresh : Tables → ℕ → Bool
no_fresh ts i = not (ltb i courses)

-- 20: "if afterwards the sum .. would pass 8,192", where course i then has n updates
unfoldable pub is_full : Tables → ℕ → ℕ → Bool
is_full ts i n = passes (changed (counts ts) i n)

-- a call on its course's table; an update and a bundle may find the card full
abbrev pub sharing : (ℕ → Bool) → List ℕ → Call (List ℕ) → Served
sharing full t (Update c n k bib v) = on_table (update_shared full t c n k bib v)
sharing full t (Query c n bib) = served t (Query c n bib)
sharing full t (Yield c board) = served t (Yield c board)
sharing full t (Fork n) = served t (Fork n)
sharing full t (Join n m board) = served t (Join n m board)
sharing full t (Sync m board) = served t (Sync m board)
sharing full t (Mark n name) = served t (Mark n name)
sharing full t (Drop name) = served t (Drop name)
sharing full t (Bundle c n batch board) = on_board t board (batch_shared full t c n batch (length board))
sharing full t (Looks l) = served t (Looks l)

-- a table made fresh, as its caller has it
abbrev pub made_fresh : List ℕ → Bool → List ℕ → Served
made_fresh t single board = let u = fresh_out t single (length board) in record { reply = out_reply u []; table = u.lent; board = fresh_board t single board }

-- what is asked of a course: to be made fresh, with its choice and board, or a call; at a table and, with lengths, on paper
pub data AskOf (Sheet : Type 0) : Type 0 where
  Fresh : (single : Bool) (board : Sheet) → AskOf Sheet
  Plain : Call Sheet → AskOf Sheet

abbrev pub Ask : Type 0
Ask = AskOf (List ℕ)

-- a refusal: value 0, and every byte lent stays
abbrev pub turned_away : ℕ → List ℕ → Ask → Served
turned_away code t (Fresh single board) = record { reply = plainly code 0 []; table = t; board = board }
turned_away code t (Plain q) = record { reply = plainly code 0 (sheet_of q); table = t; board = board_lent q }

-- asked of course i
unfoldable pub course_served : Tables → ℕ → Ask → Served
course_served ts i (Fresh single board) = cond (no_fresh ts i) (turned_away 1 (ts i) (Fresh single board)) (made_fresh (ts i) single board)
course_served ts i (Plain q) = cond (no_course ts i) (turned_away 1 (ts i) (Plain q)) (sharing (is_full ts i) (ts i) q)

-- "A call names its course"
pub record CourseCall : Type 0 where
  pub course : ℕ
  pub ask : Ask

abbrev pub gets : Tables → CourseCall → Served
gets ts c = course_served ts c.course c.ask

-- only its course's table is written
unfoldable pub written : Tables → CourseCall → Tables
written ts c = changed ts c.course (gets ts c).table
