-- What is claimed of four tables on one card (02, U12), of every four buffers and every list of calls.
use Rattle.std.specs.Prelude.{ℕ, suc, ◌+◌, ◌<◌, ◌≤◌, Bool, true, false, cond, ◌||◌, ◌≡◌, ◌↔◌, List, [], ◌∷◌, ◌++◌, eqb, length}
use Rattle.lists.specs.Lists.{◌∈◌, changed}
use Rattle.lists.specs.Differences.{differences}
use Rattle.cells.specs.Words.{Bytes}
use Rattle.boards.specs.Board.{board_bytes}
use Rattle.desk.specs.Calls.{Answer, Call, Join, Sync, Update, call_on}
use Rattle.desk.specs.Listed.{codes_for}
use Rattle.plain.specs.Record.{Line, fresh_day}
use Rattle.plain.specs.Fills.{enters}
use Rattle.table.specs.Halves.{is_table}
use Rattle.table.specs.Out.{table_bytes}
use Rattle.table.specs.Calls.{fresh_out, update_out}
use Rattle.table.specs.Served.{Served, served}
use Rattle.consistency.specs.Demand.{Explained}
use Rattle.card.specs.Log.{assured, card, courses, larger, logged}
use Rattle.card.specs.Courses.{Ask, AskOf, CourseCall, Fresh, Plain, Tables, counts, course_served, gets, no_course, turned_away, written}
use Rattle.courses.specs.Heard.{Heard, heard, tables_after}
use Rattle.courses.specs.Days.{Got, Nothing, Told, answers_to, entered_all, on_paper, replies_of, replies_to, told_alone, told_to}

-- "A call writes in no other course's table."
abbrev pub OthersStay : Type 0
OthersStay = (ts : Tables) (c : CourseCall) (j : ℕ) → (j ≡ c.course → ⊥) → written ts c j ≡ ts j

-- 02, U11, on a course: a join leaves its table at most 256 places from its former bytes, a sync 512
abbrev pub LightCourses : Type 0
LightCourses =
    (ts : Tables) (i : ℕ) → Bytes (ts i) → (n m : ℕ) (board : List ℕ)
    → (differences (ts i) (course_served ts i (Plain (Join n m board))).table ≤ 256) × (differences (ts i) (course_served ts i (Plain (Sync m board))).table ≤ 512)

-- 00, demand 1: "A refused call gives its number from the list with value 0 and changes no byte"
abbrev pub codes_asked : Ask → List ℕ
codes_asked (Fresh single board) = 1 ∷ 19 ∷ []
codes_asked (Plain q) = 1 ∷ 20 ∷ codes_for q

pub record IsTurnedAway (t : List ℕ) (a : Ask) (s : Served) : Type 0 where
  pub number : s.reply.code ∈ codes_asked a
  pub blank : s ≡ turned_away s.reply.code t a

abbrev pub RefusalsChangeNothing : Type 0
RefusalsChangeNothing = (ts : Tables) (i : ℕ) (a : Ask) → ((course_served ts i a).reply.code ≡ 0 → ⊥) → IsTurnedAway (ts i) a (course_served ts i a)

-- 1, of a call: "another number gives 1, as does any of the four buffers that meets 1's condition"; "(for fresh: its own length only)"
pub record OneExactly (ts : Tables) (i : ℕ) : Type 0 where
  pub call : (q : Call (List ℕ)) → ((course_served ts i (Plain q)).reply.code ≡ 1) ↔ (no_course ts i ≡ true)
  pub fresh : (single : Bool) (board : List ℕ) → ((course_served ts i (Fresh single board)).reply.code ≡ 1) ↔ ((i < courses) × (length (ts i) ≡ table_bytes) → ⊥)

abbrev pub OnesExactly : Type 0
OnesExactly = (ts : Tables) (i : ℕ) → OneExactly ts i

-- 20, of an update: it would be taken by its table, and "afterwards the sum .. would pass 8,192"
abbrev pub TwentyExactly : Type 0
TwentyExactly = (ts : Tables) (i c n k bib v : ℕ)
    → ((course_served ts i (Plain (Update c n k bib v))).reply.code ≡ 20)
    ↔ ((no_course ts i ≡ false) × ((update_out (ts i) c n k bib v).code ≡ 0) × (card < logged (changed (counts ts) i (suc (counts ts i)))))

-- no call has 20 that enters no update
abbrev pub TwentyByUpdates : Type 0
TwentyByUpdates = (ts : Tables) (i : ℕ) (q : Call (List ℕ)) → (course_served ts i (Plain q)).reply.code ≡ 20 → 0 < enters (call_on length q)

-- each call of a course is served as by its table alone, as the course's last call left it; those with 1 or 20 are refused and change nothing
unfoldable pub Alone : List ℕ → List Heard → Type 0
Alone t [] = Unit {0}
Alone t (h ∷ hs) = (h.got ≡ told_alone t h.ask (told_to h)) × Alone h.got.table hs

abbrev pub CoursesAlone : Type 0
CoursesAlone = (i : ℕ) (ts : Tables) (cs : List CourseCall) → Alone (ts i) (heard i ts cs)

-- a call that made its course fresh
abbrev pub is_made : Ask → ℕ → Bool
is_made (Fresh single board) code = eqb code 0
is_made (Plain q) code = false

unfoldable pub was_made : List Heard → Bool
was_made [] = false
was_made (h ∷ hs) = is_made h.ask h.got.reply.code || was_made hs

-- "once all four have been made fresh", in any order and with any calls between
abbrev pub AllMade : Tables → List CourseCall → Type 0
AllMade ts cs = (i : ℕ) → i < courses → was_made (heard i ts cs) ≡ true

-- the four tables at such a moment
pub record GoesOn (ts : Tables) : Type 0 where
  pub tables : (i : ℕ) → i < courses → is_table (ts i) ≡ true
  pub never_one : (i : ℕ) → i < courses → (a : Ask) → (course_served ts i a).reply.code ≡ 1 → ⊥
  pub sum : logged (counts ts) ≤ card
  -- "a call that would leave its course with no more than its 1,024 is never turned away on account of the others": it has what its table alone gives
  pub never_turned : (i : ℕ) → i < courses → (q : Call (List ℕ)) → counts ts i + enters (call_on length q) ≤ assured → course_served ts i (Plain q) ≡ served (ts i) q
  -- "An update is refused if afterwards the sum .. would pass 8,192"; "For bundles it counts per update": a call that its table alone would take
  pub twenty : (i : ℕ) → i < courses → (q : Call (List ℕ)) → (served (ts i) q).reply.code ≡ 0
      → ((course_served ts i (Plain q)).reply.code ≡ 20) ↔ (card < logged (changed (counts ts) i (counts ts i + enters (call_on length q))))
  -- "Making one table fresh gives its updates back": the sum loses what the course had above 1,024
  pub gives_back : (i : ℕ) → i < courses → (single : Bool) (board : List ℕ) → length board ≡ board_bytes
      → logged (counts (written ts (record { course = i; ask = Fresh single board }))) + larger (counts ts i) ≡ logged (counts ts) + assured

abbrev pub OnceAllMade : Type 0
OnceAllMade = (ts : Tables) (cs : List CourseCall) → AllMade ts cs → GoesOn (tables_after ts cs)

-- a course's calls after it was made fresh have the answers of its plain day, which is told of 1 and 20
abbrev pub FollowsPlainDay : Type 0
FollowsPlainDay =
    (i : ℕ) (ts : Tables) (cs : List CourseCall) (early later : List Heard) (h : Heard) (single : Bool) (board : List ℕ)
    → heard i ts cs ≡ early ++ (h ∷ later) → h.ask ≡ Fresh single board → h.got.reply.code ≡ 0
    → replies_of later ≡ replies_to later (answers_to (fresh_day single) (entered_all later))

-- of a course's calls those that its day was told nothing of, and what they had, up to where it is made fresh again
abbrev pub if_untold : {A : Type 0} → Ask → Told → (Call (List ℕ) → A) → List A → List A
if_untold (Fresh single board) told f more = more
if_untold (Plain q) Nothing f more = f q ∷ more
if_untold (Plain q) (Got code) f more = more

unfoldable pub untold : List Heard → List (Call (List ℕ))
untold [] = []
untold (h ∷ hs) = cond (is_made h.ask h.got.reply.code) [] (if_untold h.ask (told_to h) (λ q. q) (untold hs))

unfoldable pub untold_got : List Heard → List Served
untold_got [] = []
untold_got (h ∷ hs) = cond (is_made h.ask h.got.reply.code) [] (if_untold h.ask (told_to h) (λ q. h.got) (untold_got hs))

-- what a table alone gives a list of calls
unfoldable pub served_on : List ℕ → List (Call (List ℕ)) → List Served
served_on t [] = []
served_on t (q ∷ qs) = served t q ∷ served_on (served t q).table qs

-- they had what a table alone that is made fresh gives them, in answers, tables and boards, and demand 3 holds of them whole
pub record CourseExplained (t : List ℕ) (single : Bool) (hs : List Heard) : Type 0 where
  pub got : untold_got hs ≡ served_on (fresh_out t single board_bytes).lent (untold hs)
  pub explained : Explained t single (untold hs)

abbrev pub CoursesExplained : Type 0
CoursesExplained =
    (i : ℕ) (ts : Tables) (cs : List CourseCall) (early later : List Heard) (h : Heard) (single : Bool) (board : List ℕ)
    → heard i ts cs ≡ early ++ (h ∷ later) → h.ask ≡ Fresh single board → h.got.reply.code ≡ 0
    → (t : List ℕ) → length t ≡ table_bytes → CourseExplained t single later

-- "days that begin by making all four fresh"
unfoldable pub EachMakes : Tables → List CourseCall → Type 0
EachMakes ts [] = Unit {0}
EachMakes ts (c ∷ cs) = (is_made c.ask (gets ts c).reply.code ≡ true) × EachMakes (written ts c) cs

pub record Begins (ts : Tables) (cs : List CourseCall) : Type 0 where
  pub opening : List CourseCall
  pub rest : List CourseCall
  pub is : cs ≡ opening ++ rest
  pub each : EachMakes ts opening
  pub all : AllMade ts opening

-- what was asked, at a table or on paper, and whether it "got 20"
pub record Asked (Sheet : Type 0) : Type 0 where
  pub ask : AskOf Sheet
  pub twenty : Bool

abbrev pub asks : {S : Type 0} → (Ask → AskOf S) → List Heard → List (Asked S)
asks on [] = []
asks on (h ∷ hs) = record { ask = on h.ask; twenty = eqb h.got.reply.code 20 } ∷ asks on hs

-- the same answers on paper, each as its caller gets it
pub record SameAnswers (hs ks : List Heard) : Type 0 where
  pub answers : List (Answer (List Line))
  pub one : replies_of hs ≡ replies_to hs answers
  pub other : replies_of ks ≡ replies_to ks answers

-- "two days that begin by making all four fresh and agree in one course's calls, and in which of them got 20, agree in all its answers": of a sheet or a board
-- only the length need be the same
abbrev pub DaysAgree : Type 0
DaysAgree =
    (i : ℕ) → i < courses → (ts us : Tables) (cs ds : List CourseCall) → Begins ts cs → Begins us ds
    → asks on_paper (heard i ts cs) ≡ asks on_paper (heard i us ds) → SameAnswers (heard i ts cs) (heard i us ds)

-- and if their bytes are the same too, the days agree in all that its callers had, tables and boards included
abbrev pub DaysSame : Type 0
DaysSame =
    (i : ℕ) → i < courses → (ts us : Tables) (cs ds : List CourseCall) → Begins ts cs → Begins us ds
    → asks (λ a. a) (heard i ts cs) ≡ asks (λ a. a) (heard i us ds) → heard i ts cs ≡ heard i us ds
