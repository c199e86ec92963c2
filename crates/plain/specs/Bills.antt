-- 02, U14, "The rental bill", by the calls and their answers and not by what the day keeps.
use Rattle.std.specs.Prelude.{ℕ, ◌+◌, Bool, List}
use Rattle.bills.specs.Bill.{bill}
use Rattle.desk.specs.Calls.{Call, Looks, Bill}
use Rattle.plain.specs.Answers.{called, day_after}
use Rattle.plain.specs.Fills.{accepted_in, comes_to, tally}

-- "Boxes are counted from the history", "the main box included"
abbrev pub started_in : List (Call ℕ) → List ℕ → ℕ
started_in cs codes = 1 + tally (λ c. (comes_to c).boxes) cs codes

-- the bill of a history: the calls and the codes of their answers
abbrev pub bill_in : List (Call ℕ) → List ℕ → Bool → ℕ
bill_in cs codes member = bill (started_in cs codes) (accepted_in cs codes) member

-- what a bill answers after some calls
abbrev pub bill_after : Bool → List (Call ℕ) → Bool → ℕ
bill_after single cs member = (called (day_after single cs) (Looks (Bill member))).answer.value
