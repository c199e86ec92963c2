-- A day file printed from the day kept on paper: 01, "The plain day and its line-up" and "Day file and printed day". The
-- records run on the plain day; no table is kept.
use Rattle.std.specs.Prelude.{ℕ, zero, suc, false, ◌≡◌, List, [], ◌++◌, Option, Some, None}
use Rattle.text.specs.Placed.{ascii}
use Rattle.text.specs.Decimal.{ended}
use Rattle.boards.specs.Board.{board_bytes}
use Rattle.dayfile.specs.File.{file_check}
use Rattle.dayfile.specs.Record.{step_at}
use Rattle.dayfile.specs.declared.step.Step.{Step}
use Rattle.dayfile.specs.declared.step.Step.TheVariants.{Update, Query, Yield, Fork, Join, Unknown}
use Rattle.desk.specs.Calls as Call
use Rattle.desk.specs.Calls.{Answer}
use Rattle.plain.specs.Record.{Line, PlainDay, fresh_day}
use Rattle.plain.specs.Answers.{Outcome, called, refused}
use Rattle.report.specs.Printed.{line, line_feed, printed}

-- 13: "strange step", "given by the program": no call of the day. A yield and a join have a board of the right length lent
abbrev pub outcome : PlainDay → Step → Outcome
outcome p (Update c n k bib v) = called p (Call.Update c n k bib v)
outcome p (Query c n bib) = called p (Call.Query c n bib)
outcome p (Yield c) = called p (Call.Yield c board_bytes)
outcome p (Fork n) = called p (Call.Fork n)
outcome p (Join n m) = called p (Call.Join n m board_bytes)
outcome p Unknown = refused p 13

-- the day after the first i records
unfoldable pub paper_after : List ℕ → ℕ → PlainDay
paper_after f zero = fresh_day false
paper_after f (suc i) = (outcome (paper_after f i) (step_at f i)).next

abbrev pub answer_at : List ℕ → ℕ → Answer (List Line)
answer_at f i = (outcome (paper_after f i) (step_at f i)).answer

-- "one line a record: index from 0, code, value"
unfoldable pub paper_lines : List ℕ → ℕ → List ℕ
paper_lines f zero = []
paper_lines f (suc i) = paper_lines f i ++ line i (answer_at f i).code (answer_at f i).state (answer_at f i).value

abbrev pub paper_as : Option ℕ → List ℕ → List ℕ
paper_as None f = ascii "bad file\n"
paper_as (Some n) f = ascii "steps " ++ ended n line_feed ++ paper_lines f n

unfoldable pub paper : List ℕ → List ℕ
paper f = paper_as (file_check f) f

-- whatever the file, the text that the report puts is the one on paper
abbrev pub PrintedIsPaper : Type 0
PrintedIsPaper = (f : List ℕ) → printed f ≡ paper f
