-- What a taken call tells, call by call: 01, "Values when taken", and 02, by the day's own vertices and paths. Each call has its case.
use Rattle.std.specs.Prelude.{ℕ, ◌<◌, Bool, ◌≡◌, List, [], length}
use Rattle.std.proofs.Math.Option.{some}
use Rattle.updates.specs.Kinds.{kind_of}
use Rattle.diagram.specs.Effects.{number}
use Rattle.diagram.specs.Day.{Day, meant}
use Rattle.diagram.specs.Reuse.{Takes}
use Rattle.diagram.specs.Arbitration.{Shows, WholeAt}
use Rattle.desk.specs.Calls.{Call, Update, Query, Yield, Fork, Join, Sync, Mark, Drop, Bundle, Looks, Show, Fill, Preview, Verify, Bill, Answer, entries_of, plainly, reading}
use Rattle.entries.specs.Folded.{standing_of}
use Rattle.plain.specs.Record.{PlainDay, Line, lines_of}
use Rattle.plain.specs.Answers.{Outcome, answers, day_after}
use Rattle.plain.specs.Taken.{end_of, steps_after}
use Rattle.plain.specs.Bundles.{Bundled}
use Rattle.plain.specs.Values.{Forked, Gained, Filled}
use Rattle.plain.specs.Previews.{Foresees}
use Rattle.plain.specs.Syncs.{Synced}
use Rattle.plain.specs.Marks.{MarkTaken, DropTaken}
use Rattle.plain.specs.Orders.{Verified}
use Rattle.plain.specs.Fills.{codes_of}
use Rattle.plain.specs.Bills.{bill_in}

-- a query: "as its bib stands after the updates it sees, and no others, are applied to the fresh values, each once, in line-up order, and as entered within
-- a transaction". `end` is the day after all calls, `order` its line-up, x the query's vertex
pub record AnsweredBy (end : PlainDay) (order : List ℕ) (x bib : ℕ) (answer : Answer (List Line)) : Type 0 where
  pub updates : List ℕ
  pub shown : Shows end.day order x updates
  pub is : answer ≡ reading (standing_of end.entries bib updates) 0 []

-- a list of revision r on day y: the updates that its terminal (01: line end) sees, in the order of the line-up, each as it was entered
pub record ListedBy (end : PlainDay) (order : List ℕ) (y : Day) (r : ℕ) (answer : Answer (List Line)) : Type 0 where
  pub updates : List ℕ
  pub shown : Shows end.day order (y.terminal r) updates
  pub is : answer ≡ plainly 0 (length updates) (lines_of end.entries updates)
  -- "A taken list shows its updates likewise": whole transactions
  pub whole : (t : ℕ) → t < y.transactions → WholeAt y t (y.terminal r) (length y.diagram)

-- call c, taken after the calls `before` with outcome o
abbrev pub Told : Bool → List (Call ℕ) → PlainDay → List ℕ → Call ℕ → Outcome → Type 0
-- "update, the count of updates taken before it": its vertex, the next one of the day, has this number, and under it the update is kept as it was entered
Told single before end order (Update c n k bib v) o =
    (number end.day.diagram (length (end_of single before).diagram) ≡ some o.answer.value)
    × (end.entries o.answer.value ≡ record { kind = kind_of k; client = c; bib = bib; v = v })
-- "query, the bib's value"; its vertex is the next one of the day
Told single before end order (Query c n bib) o = AnsweredBy end order (length (end_of single before).diagram) bib o.answer
-- "yield, 0"
Told single before end order (Yield c room) o = o.answer ≡ plainly 0 0 []
-- "fork, the new number", by the rule of 02, U7
Told single before end order (Fork n) o = Takes (steps_after single before) o.answer.value × Forked (end_of single before) n o
-- "join, the count of updates the joiner gained"
Told single before end order (Join n m room) o = let y = end_of single before in Gained y (meant y n) (meant y m) o
-- 02, U8: "joins it into box 0, then forks box 0"
Told single before end order (Sync m room) o = Synced (day_after single before) m room o
-- 02, U9: "Mark has fork's refusals and value"
Told single before end order (Mark n name) o = Takes (steps_after single before) o.answer.value × MarkTaken (end_of single before) n name o
Told single before end order (Drop name) o = DropTaken (end_of single before) name o
-- 02, U4: "sending the updates one by one and then a yield"
Told single before end order (Bundle c n batch room) o = Bundled (day_after single before) c n (entries_of batch) o
-- "list, the count n of updates visible at the line end"
Told single before end order (Looks (Show n room)) o = let y = end_of single before in ListedBy end order y (meant y n) o.answer
-- 02, U1
Told single before end order (Looks (Fill n)) o = let y = end_of single before in Filled y (meant y n) o.answer
-- 02, U6: "joining on a copy of the table and reading there"
Told single before end order (Looks (Preview n m bib)) o = Foresees (day_after single before) n m bib o.answer
-- 02, U13
Told single before end order (Looks (Verify file)) o = Verified (end_of single before) file o.answer
-- 02, U14: by the calls before it and the codes of their answers
Told single before end order (Looks (Bill member)) o = o.answer ≡ plainly 0 (bill_in before (codes_of (answers single before)) member) []
