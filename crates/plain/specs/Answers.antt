-- What each call answers and does to the day: 01, "The plain day and its line-up": "this record and the table of codes decide each call". The table of
-- codes is `checks` of crate desk.
use Rattle.std.specs.Prelude.{ℕ, ◌+◌, ◌*◌, Bool, false, cond, not, ◌&&◌, List, [], ◌∷◌, length, eqb, ltb}
use Rattle.std.proofs.Math.Option.{Option, none, some}
use Rattle.lists.specs.Names.{Name}
use Rattle.updates.specs.Kinds.{kind_of}
use Rattle.bundles.specs.declared.entry.Entry as Sent
use Rattle.orderfile.specs.File.{numbers_in}
use Rattle.orderfile.specs.Test.{fits}
use Rattle.boards.specs.Board.{board_bytes}
use Rattle.bills.specs.Bill.{bill}
use Rattle.desk.specs.Calls.{Call, Update, Query, Yield, Fork, Join, Sync, Mark, Drop, Bundle, Looks, Look, Show, Fill, Preview, Verify, Bill, Answer, plainly, reading, level, entries_of}
use Rattle.desk.specs.Checks.{Tests, checks, settle}
use Rattle.diagram.specs.Views.{own}
use Rattle.diagram.specs.Day.{Day, is_given, is_named, mark_named, meant, next_number, shown_at}
use Rattle.diagram.specs.Checks.{unknown_client, marked, open_elsewhere, busy_by_other, busy, stale, log_full, none_left, not_joinable, bad_name}
use Rattle.diagram.specs.Steps as Steps
use Rattle.diagram.specs.Steps.{after}
use Rattle.plain.specs.Record.{PlainDay, Line, fresh_day, path_result, lines_of, noted}

-- on paper a sheet or a board is told by its length; a sheet has lines written on it, and a board changes nothing of the day
pub record Outcome : Type 0 where
  pub next : PlainDay
  pub answer : Answer (List Line)

-- what a revision took itself or by joins
abbrev pub own_at : Day → ℕ → List ℕ
own_at y r = own y.diagram (y.terminal r)

-- the questions of the codes, asked of the day. "Code 1 doesn't arise on it"
abbrev pub asked : PlainDay → Tests
asked p =
    let y = p.day in
    record {
      no_table = false;
      strange = unknown_client;
      never = λ n. not (is_given y n);
      joined = λ n. y.joined (meant y n);
      off_line = λ n. p.single && not (eqb n 0);
      markless = p.single;
      marked = λ n. marked y (meant y n);
      elsewhere = λ c n. open_elsewhere y c (meant y n);
      by_other = λ c n. busy_by_other y c (meant y n);
      busy = λ n. busy y (meant y n);
      stale = λ c n. stale y c (meant y n);
      full = log_full y;
      all_out = none_left y;
      unjoinable = λ n m. not_joinable y (meant y n) (meant y m);
      short = λ n room. ltb room (12 * length (shown_at y (meant y n)));
      bad_name = bad_name y;
      no_mark = λ name. not (is_named y name);
    }

-- "a refused one changes nothing" and "A refusal gives value 0"
abbrev pub refused : PlainDay → ℕ → Outcome
refused p code = record { next = p; answer = plainly code 0 [] }

abbrev pub taken : PlainDay → ℕ → Outcome
taken p value = record { next = p; answer = plainly 0 value [] }

-- by its row of checks
abbrev pub by_row : PlainDay → Call ℕ → Outcome → Outcome
by_row p c end = settle (checks (asked p) c) (refused p) end

-- the day of revisions goes on, and no update was taken; so many boxes were started
abbrev pub stepped : PlainDay → Steps.Step → ℕ → PlainDay
stepped p s boxes = record { single = p.single; day = after p.day s; entries = p.entries; started = boxes + p.started }

-- "Values when taken: update, the count of updates taken before it"
abbrev pub updated : PlainDay → ℕ → ℕ → ℕ → ℕ → ℕ → Outcome
updated p c n k bib v = taken (noted p c (meant p.day n) (kind_of k) bib v) p.day.updates

-- "yield, 0"
abbrev pub yielded : PlainDay → ℕ → Outcome
yielded p c = taken (stepped p (Steps.Yield c) 0) 0

-- "join, the count of updates the joiner gained"
abbrev pub joined : PlainDay → ℕ → ℕ → Outcome
joined p n m = taken (stepped p (Steps.Join (meant p.day n) (meant p.day m)) 0) (length (own_at p.day (meant p.day m)))

-- "fork, the new number"; 02, U9: "Mark has fork's refusals and value", and gives the new box a name
abbrev pub forked : PlainDay → ℕ → Option Name → ℕ → Outcome
forked p n name boxes = taken (stepped p (Steps.Fork (meant p.day n) name) boxes) (next_number p.day)

-- 02, U8: "joins it into box 0, then forks box 0; it is one step, answers the new number": where the fork is refused, nothing is done
abbrev pub as_one : PlainDay → Outcome → Outcome
as_one p o = cond (eqb o.answer.code 0) o (refused p o.answer.code)

abbrev pub synced : PlainDay → ℕ → Outcome
synced p m = let q = (joined p 0 m).next in as_one p (by_row q (Fork 0) (forked q 0 none 1))

-- 02, U4: "sending the updates one by one and then a yield", with a board of the right length; the first that is refused ends it
abbrev pub after_taken : Outcome → (PlainDay → Outcome) → Outcome
after_taken o rest = cond (eqb o.answer.code 0) (rest o.next) o

unfoldable pub sent : PlainDay → ℕ → ℕ → List Sent.Entry → Outcome
sent p c n [] = by_row p (Yield c board_bytes) (yielded p c)
sent p c n (e ∷ es) = after_taken (by_row p (Update c n e.kind e.bib e.v) (updated p c n e.kind e.bib e.v)) (λ q. sent q c n es)

-- "If any of them would be refused, the code of the earliest is given"; "The value is the first entry's number."
abbrev pub bundled : PlainDay → Outcome → Outcome
bundled p o = cond (eqb o.answer.code 0) (taken o.next p.day.updates) (refused p o.answer.code)

-- 02, U13: of the revisions that are out, what their terminals see: "every box out", "open transactions included"
abbrev pub fits_day : Day → List ℕ → Bool
fits_day y numbers = fits y.updates y.revisions (λ r. not (y.joined r)) (shown_at y) numbers

-- what a call that only looks tells: the day stays
abbrev pub told : PlainDay → Look ℕ → Answer (List Line)
-- "list, the count n of updates visible at the line end"; "The sheet receives n entries of 12 bytes, in the order in which the effects apply on the way
-- from the root"
told p (Show n room) = plainly 0 (length (shown_at p.day (meant p.day n))) (lines_of p.entries (shown_at p.day (meant p.day n)))
-- 02, U1: "its own updates: those it took itself plus those of boxes joined into it", busy or not; "Also tell the number taken by the whole table"
told p (Fill n) = level (length (own_at p.day (meant p.day n))) p.day.updates []
-- 02, U6: "the state and value at the joiner's line end and the gain", where that line end is the join vertex, the next vertex of the day
told p (Preview n m bib) = reading (path_result (joined p n m).next (length p.day.diagram) bib) (joined p n m).answer.value []
-- 02, U13: "Say yes, value 1, and else value 0"
told p (Verify file) = plainly 0 (cond (fits_day p.day (numbers_in file)) 1 0) []
-- 02, U14: the boxes started and the updates taken, in cents
told p (Bill member) = plainly 0 (bill p.started p.day.updates member) []

-- how a call ends that no check stops
abbrev pub ending : PlainDay → Call ℕ → Outcome
ending p (Update c n k bib v) = updated p c n k bib v
-- a query's state and value: the path-result of its vertex
ending p (Query c n bib) =
    let q = stepped p (Steps.Event c (meant p.day n) false) 0 in
    record { next = q; answer = reading (path_result q (length p.day.diagram) bib) 0 [] }
ending p (Yield c room) = yielded p c
ending p (Fork n) = forked p n none 1
ending p (Join n m room) = joined p n m
ending p (Sync m room) = synced p m
-- 02, U14: "marks not counted"
ending p (Mark n name) = forked p n (some name) 0
-- 02, U9: a drop's "value is 0"
ending p (Drop name) = taken (stepped p (Steps.Drop (mark_named p.day name)) 0) 0
ending p (Bundle c n batch room) = bundled p (sent p c n (entries_of batch))
ending p (Looks l) = record { next = p; answer = told p l }

unfoldable pub called : PlainDay → Call ℕ → Outcome
called p c = by_row p c (ending p c)

-- the day after a list of calls from a fresh one, each getting it "as the last one left it"; and what they answer
unfoldable pub day_from : PlainDay → List (Call ℕ) → PlainDay
day_from p [] = p
day_from p (c ∷ cs) = day_from (called p c).next cs

unfoldable pub day_after : Bool → List (Call ℕ) → PlainDay
day_after single cs = day_from (fresh_day single) cs

unfoldable pub answers_from : PlainDay → List (Call ℕ) → List (Answer (List Line))
answers_from p [] = []
answers_from p (c ∷ cs) = (called p c).answer ∷ answers_from (called p c).next cs

unfoldable pub answers : Bool → List (Call ℕ) → List (Answer (List Line))
answers single cs = answers_from (fresh_day single) cs
