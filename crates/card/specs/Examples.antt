-- 02, U12, worked by numbers: whether the next update of a course would have 20, where nothing else refuses it.
use Rattle.std.specs.Prelude.{ℕ, suc, Bool, true, false, ◌≡◌, List, [], ◌∷◌, get_or}
use Rattle.lists.specs.Lists.{changed}
use Rattle.card.specs.Log.{logged, passes}

-- the four counts before an update of a course, the sum after it, and whether it has 20
pub record Example : Type 0 where
  pub counts : List ℕ
  pub course : ℕ
  pub sum : ℕ
  pub twenty : Bool

abbrev pub count_of : List ℕ → ℕ → ℕ
count_of counts i = get_or counts i 0

abbrev pub after_one : List ℕ → ℕ → ℕ → ℕ
after_one counts i = changed (count_of counts) i (suc (count_of counts i))

pub record Found : Type 0 where
  pub sum : ℕ
  pub twenty : Bool

abbrev pub computed : List Example → List Found
computed [] = []
computed (e ∷ es) = record { sum = logged (after_one e.counts e.course); twenty = passes (after_one e.counts e.course) } ∷ computed es

abbrev pub expected : List Example → List Found
expected [] = []
expected (e ∷ es) = record { sum = e.sum; twenty = e.twenty } ∷ expected es

abbrev pub examples : List Example
examples =
    -- four courses just made fresh
    record { counts = 0 ∷ 0 ∷ 0 ∷ 0 ∷ []; course = 0; sum = 4096; twenty = false }
    -- 8,192 is taken, 8,193 is not
    ∷ record { counts = 4096 ∷ 2047 ∷ 0 ∷ 0 ∷ []; course = 1; sum = 8192; twenty = false }
    ∷ record { counts = 4096 ∷ 2048 ∷ 0 ∷ 0 ∷ []; course = 1; sum = 8193; twenty = true }
    ∷ record { counts = 2048 ∷ 2048 ∷ 2048 ∷ 2048 ∷ []; course = 3; sum = 8193; twenty = true }
    -- three courses have used all that is not assured to the fourth: it takes its 1,024th, and no more
    ∷ record { counts = 2389 ∷ 2389 ∷ 2390 ∷ 0 ∷ []; course = 2; sum = 8193; twenty = true }
    ∷ record { counts = 2389 ∷ 2389 ∷ 2390 ∷ 0 ∷ []; course = 3; sum = 8192; twenty = false }
    ∷ record { counts = 2389 ∷ 2389 ∷ 2390 ∷ 1023 ∷ []; course = 3; sum = 8192; twenty = false }
    ∷ record { counts = 2389 ∷ 2389 ∷ 2390 ∷ 1024 ∷ []; course = 3; sum = 8193; twenty = true }
    -- course 0 is made fresh: 1,365 of its 2,389 come back, all but the assured
    ∷ record { counts = 0 ∷ 2389 ∷ 2390 ∷ 1024 ∷ []; course = 3; sum = 6828; twenty = false }
    ∷ record { counts = 0 ∷ 2389 ∷ 2390 ∷ 2388 ∷ []; course = 3; sum = 8192; twenty = false }
    ∷ record { counts = 0 ∷ 2389 ∷ 2390 ∷ 2389 ∷ []; course = 3; sum = 8193; twenty = true }
    ∷ []

abbrev pub ExamplesHold : Type 0
ExamplesHold = computed examples ≡ expected examples
