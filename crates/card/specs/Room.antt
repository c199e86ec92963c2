-- No claim rests on this file: it serves the code. The card's room for a course as one number, the most updates that it may have, by the other three tables.
use Rattle.std.specs.Prelude.{ℕ, ◌+◌, ◌-◌, cond, ◌&&◌, ◌≡◌, List, ltb}
use Rattle.cells.specs.Sizes.{updates}
use Rattle.desk.specs.Calls.{Call}
use Rattle.table.specs.Halves.{is_table}
use Rattle.table.specs.Served.{Served, served}
use Rattle.table.specs.Shared.{above, count_in}
use Rattle.card.specs.Log.{assured, card, larger}
use Rattle.card.specs.Courses.{course_served, four, Plain, sharing, turned_away}

-- what the sum of the other three leaves of the card; none where that is less than 1,024, as on no day
unfoldable pub most : ℕ → ℕ
most others = cond (ltb (card - assured) others) 0 (card - others)

abbrev pub beside : List ℕ → List ℕ → List ℕ → ℕ
beside a b c = larger (count_in a) + larger (count_in b) + larger (count_in c)

-- a call on the table t beside a, b and c
unfoldable pub served_beside : List ℕ → List ℕ → List ℕ → List ℕ → Call (List ℕ) → Served
served_beside a b c t q = cond (is_table a && is_table b && is_table c) (sharing (above (most (beside a b c))) t q) (turned_away 1 t (Plain q))

-- so that one function may serve each course
pub record CourseByNumber (a b c d : List ℕ) (q : Call (List ℕ)) : Type 0 where
  pub first : course_served (four a b c d) 0 (Plain q) ≡ served_beside b c d a q
  pub second : course_served (four a b c d) 1 (Plain q) ≡ served_beside a c d b q
  pub third : course_served (four a b c d) 2 (Plain q) ≡ served_beside a b d c q
  pub fourth : course_served (four a b c d) 3 (Plain q) ≡ served_beside a b c d q

abbrev pub CoursesByNumber : Type 0
CoursesByNumber = (a b c d : List ℕ) (q : Call (List ℕ)) → CourseByNumber a b c d q

-- a table alone is one whose most is 4,096, so that one function may serve both
abbrev pub AloneByMost : Type 0
AloneByMost = (t : List ℕ) (q : Call (List ℕ)) → sharing (above updates) t q ≡ served t q
