-- 02, U1: "own updates, summed over all boxes out, always equal the updates accepted since fresh, that number being counted
-- from the history". 02's "lids" are what fills tell.
use Rattle.std.specs.Prelude.{ℕ, ◌+◌, Bool, cond, ◌≡◌, List, [], ◌∷◌, eqb, length}
use Rattle.lists.specs.Lists.{mapped}
use Rattle.lists.specs.Sums.{sum_below}
use Rattle.desk.specs.Calls.{Call, Update, Query, Yield, Fork, Join, Sync, Mark, Drop, Bundle, Looks, Fill, Answer, entries_of}
use Rattle.plain.specs.Record.{PlainDay}
use Rattle.plain.specs.Answers.{called, day_after, answers}

-- what a fill of each number given out tells; of one that is joined (01: handed in) it tells 0
abbrev pub fill_sum : PlainDay → ℕ
fill_sum p = sum_below p.day.numbering.given (λ n. (called p (Looks (Fill n))).answer.value)

-- what a call comes to: the boxes that it starts, "reused numbers counted again and marks not counted" (02, U14), and the updates that it enters
abbrev pub comes_to : Call ℕ → record { boxes : ℕ; updates : ℕ }
comes_to (Update c n k bib v) = record { boxes = 0; updates = 1 }
comes_to (Query c n bib) = record { boxes = 0; updates = 0 }
comes_to (Yield c room) = record { boxes = 0; updates = 0 }
comes_to (Fork n) = record { boxes = 1; updates = 0 }
comes_to (Join n m room) = record { boxes = 0; updates = 0 }
comes_to (Sync m room) = record { boxes = 1; updates = 0 }
comes_to (Mark n name) = record { boxes = 0; updates = 0 }
comes_to (Drop name) = record { boxes = 0; updates = 0 }
comes_to (Bundle c n batch room) = record { boxes = 0; updates = length (entries_of batch) }
comes_to (Looks l) = record { boxes = 0; updates = 0 }

abbrev pub enters : Call ℕ → ℕ
enters c = (comes_to c).updates

-- the history: the calls and the codes of their answers; a call with code 0 was accepted, and comes to as many as `counts` says
unfoldable pub tally : (Call ℕ → ℕ) → List (Call ℕ) → List ℕ → ℕ
tally counts [] codes = 0
tally counts (c ∷ cs) [] = 0
tally counts (c ∷ cs) (code ∷ codes) = cond (eqb code 0) (counts c) 0 + tally counts cs codes

abbrev pub accepted_in : List (Call ℕ) → List ℕ → ℕ
accepted_in cs codes = tally enters cs codes

abbrev pub codes_of : {S : Type 0} → List (Answer S) → List ℕ
codes_of answers = mapped (λ a. a.code) answers

pub record FillsAddUp (single : Bool) (cs : List (Call ℕ)) : Type 0 where
  pub sum : fill_sum (day_after single cs) ≡ accepted_in cs (codes_of (answers single cs))
  -- "the number taken by the whole table" is the same number
  pub total : (n : ℕ) → (called (day_after single cs) (Looks (Fill n))).answer.code ≡ 0 → (called (day_after single cs) (Looks (Fill n))).answer.total ≡ accepted_in cs (codes_of (answers single cs))
