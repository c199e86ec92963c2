-- What a call answers, by 01's number and values: "If so, a definition gives this paper's number and values for each of the enum's cases, and the promises
-- use that definition." "A refusal gives value 0."
use Rattle.std.specs.Prelude.{ℕ, Bool, cond, List, Result, Ok, Err}
use Rattle.updates.specs.declared.standing.State.TheVariants.{Neither}
use Rattle.table.specs.Out.{Answer, Level, Out, Prospect}
use Rattle.table.specs.declared.answer.Reading.{Reading}
use Rattle.table.specs.declared.answer.Level as Taken
use Rattle.table.specs.declared.answer.Prospect as Seen
use Rattle.table.specs.declared.refusal.Refusal.{Refusal}
use Rattle.table.specs.declared.refusal.Refusal.TheVariants.{NoTable, StrangeClient, NeverSent, Joined, BadEntry, OpenElsewhere, Busy, NotCaughtUp, LogFull, NoneLeft, NotJoinable}
use Rattle.table.specs.declared.refusal.Refusal.TheVariants.{SheetShort, StrangeStep, WrongBundle, OffTheLine, Marked, BadName, NoSuchMark, WrongBoard, CardFull, BadList}

abbrev pub code_of : Refusal → ℕ
code_of NoTable = 1
code_of StrangeClient = 2
code_of NeverSent = 3
code_of Joined = 4
code_of BadEntry = 5
code_of OpenElsewhere = 6
code_of Busy = 7
code_of NotCaughtUp = 8
code_of LogFull = 9
code_of NoneLeft = 10
code_of NotJoinable = 11
code_of SheetShort = 12
code_of StrangeStep = 13
code_of WrongBundle = 14
code_of OffTheLine = 15
code_of Marked = 16
code_of BadName = 17
code_of NoSuchMark = 18
code_of WrongBoard = 19
code_of CardFull = 20
code_of BadList = 21

-- "0 taken"
abbrev pub code_told : {A : Type 0} → Result A Refusal → ℕ
code_told (Ok a) = 0
code_told (Err e) = code_of e

abbrev pub value_told : Result ℕ Refusal → ℕ
value_told (Ok v) = v
value_told (Err e) = 0

-- an answer, and the lent bytes at exit
abbrev pub left : Result ℕ Refusal → List ℕ → Out
left a lent = record { code = code_told a; state = Neither; value = value_told a; lent = lent }

-- 02, U2: "a refused one neither"
abbrev pub reading_told : Result Reading Refusal → Reading
reading_told (Ok a) = a
reading_told (Err e) = record { state = Neither; value = 0 }

abbrev pub left_read : Result Reading Refusal → List ℕ → Out
left_read a lent = record { code = code_told a; state = (reading_told a).state; value = (reading_told a).value; lent = lent }

-- of a bill
abbrev pub answer_told : Result ℕ Refusal → Answer
answer_told a = record { code = code_told a; value = value_told a }

-- 02, U13: "Say yes, value 1, and else value 0"
abbrev pub verdict_told : Result Bool Refusal → Answer
verdict_told (Ok agrees) = record { code = 0; value = cond agrees 1 0 }
verdict_told (Err e) = record { code = code_of e; value = 0 }

-- 02, U1: "in a refusal both are 0"
abbrev pub level_told : Result Taken.Level Refusal → Level
level_told (Ok f) = record { code = 0; own = f.own; total = f.total }
level_told (Err e) = record { code = code_of e; own = 0; total = 0 }

-- 02, U6: refusals are "with state neither and gain 0"
abbrev pub prospect_told : Result Seen.Prospect Refusal → Prospect
prospect_told (Ok f) = record { code = 0; state = f.state; value = f.value; gain = f.gain }
prospect_told (Err e) = record { code = code_of e; state = Neither; value = 0; gain = 0 }
