-- 02, U12: "A course's plain day is told which of its calls got 1 or 20; they are refused in it and change nothing."
use Rattle.std.specs.Prelude.{ℕ, cond, ◌||◌, List, [], ◌∷◌, eqb, length}
use Rattle.boards.specs.Board.{is_wrong_board}
use Rattle.desk.specs.Calls.{Answer, answer_on, call_on}
use Rattle.plain.specs.Record.{Line, PlainDay, fresh_day}
use Rattle.plain.specs.Answers.{Outcome, called, refused, taken}
use Rattle.table.specs.Served.{Served, sheet_of}
use Rattle.consistency.specs.Table.{sheet_with}
use Rattle.card.specs.Courses.{Ask, AskOf, Fresh, Plain, turned_away}
use Rattle.courses.specs.Heard.{Heard, alone}

-- what the day is told of a call
pub data Told : Type 0 where
  Nothing : Told
  Got : (code : ℕ) → Told

abbrev pub told_of : ℕ → Told
told_of code = cond (eqb code 1 || eqb code 20) (Got code) Nothing

abbrev pub told_to : Heard → Told
told_to h = told_of h.got.reply.code

-- all that the plain day of a course is fed: the call, "(of a sheet only the length)", and what it is told
pub record Entered : Type 0 where
  pub ask : AskOf ℕ
  pub told : Told

abbrev pub on_paper : Ask → AskOf ℕ
on_paper (Fresh single board) = Fresh single (length board)
on_paper (Plain q) = Plain (call_on length q)

abbrev pub entered_all : List Heard → List Entered
entered_all [] = []
entered_all (h ∷ hs) = record { ask = on_paper h.ask; told = told_to h } ∷ entered_all hs

-- a call on the plain day of a course; made fresh, it begins anew
unfoldable pub told_called : PlainDay → AskOf ℕ → Told → Outcome
told_called p a (Got code) = refused p code
told_called p (Fresh single room) Nothing = cond (is_wrong_board room) (refused p 19) (taken (fresh_day single) 0)
told_called p (Plain c) Nothing = called p c

-- its answers to all calls of the course, and the day that they leave
unfoldable pub answers_to : PlainDay → List Entered → List (Answer (List Line))
answers_to p [] = []
answers_to p (e ∷ es) = (told_called p e.ask e.told).answer ∷ answers_to (told_called p e.ask e.told).next es

unfoldable pub day_to : PlainDay → List Entered → PlainDay
day_to p [] = p
day_to p (e ∷ es) = day_to (told_called p e.ask e.told).next es

-- the sheet that was lent, if any
abbrev pub sheet_asked : Ask → List ℕ
sheet_asked (Fresh single board) = []
sheet_asked (Plain q) = sheet_of q

-- answers on paper as the callers get them; and what they got
unfoldable pub replies_to : List Heard → List (Answer (List Line)) → List (Answer (List ℕ))
replies_to [] more = []
replies_to (h ∷ hs) [] = []
replies_to (h ∷ hs) (a ∷ more) = answer_on (λ ls. sheet_with ls (sheet_asked h.ask)) a ∷ replies_to hs more

abbrev pub replies_of : List Heard → List (Answer (List ℕ))
replies_of [] = []
replies_of (h ∷ hs) = h.got.reply ∷ replies_of hs

-- the table alone, told the same
abbrev pub told_alone : List ℕ → Ask → Told → Served
told_alone t a Nothing = alone t a
told_alone t a (Got code) = turned_away code t a
