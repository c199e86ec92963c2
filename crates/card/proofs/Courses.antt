-- What a call on four tables writes, and what it has by the number of its course alone.
use Prim.Native.Nat.{ℕ, ◌<◌}
use mathlib.Core.Bool.{Bool, true, false, not}
use mathlib.Core.Path.{◌≡◌, ◌∙◌, subst}
use mathlib.Core.List.{List, []}
use lib.Dec.{ltb}
use lib.ListN.{length}
use borrow.Author.Tests.{lt-ltb, ltb-true, not-false}
use Rattle.lists.proofs.Cases.{cases, or-false}
use Rattle.lists.proofs.Changed.{changed-other, changed_same}
use Rattle.lists.proofs.Sums.{any_never, any_none}
use Rattle.boards.specs.Board.{board_bytes}
use Rattle.desk.specs.Calls.{Batch, Bundle, Call, entries_of, is_wrong_batch, plainly}
use Rattle.table.specs.Halves.{is_table}
use Rattle.table.specs.Calls.{bundled}
use Rattle.table.specs.Served.{on_board}
use Rattle.table.specs.Shared.{batch_shared, sent_shared}
use Rattle.card.specs.Log.{courses}
use Rattle.card.specs.Courses.{Ask, CourseCall, Fresh, Plain, Tables, course_served, gets, is_full, made_fresh, no_course, no_fresh, sharing, turned_away, written}

pub written-own : (ts : Tables) (c : CourseCall) → written ts c c.course ≡ (gets ts c).table
unfolding written
written-own ts c = changed_same ts c.course (gets ts c).table

pub written-other : (ts : Tables) (c : CourseCall) (j : ℕ) → (j ≡ c.course → ⊥) → written ts c j ≡ ts j
unfolding written
written-other ts c j h = changed-other ts c.course (gets ts c).table j h

-- a number of a course, and four tables
pub record IsCourse (ts : Tables) (i : ℕ) : Type 0 where
  pub number : i < courses
  pub tables : (j : ℕ) → j < courses → is_table (ts j) ≡ true

pub is_course : (ts : Tables) (i : ℕ) → no_course ts i ≡ false → IsCourse ts i
unfolding no_course
is_course ts i e =
    let o = or-false (not (ltb i courses)) _ e in
    record { number = ltb-true i courses (not-false _ o.0); tables = λ j l. not-false (is_table (ts j)) (any_none courses (λ j. not (is_table (ts j))) o.1 j l) }

pub course_is : (ts : Tables) (i : ℕ) → IsCourse ts i → no_course ts i ≡ false
unfolding no_course
course_is ts i C = rw (lt-ltb i courses C.number) (any_never courses (λ j. not (is_table (ts j))) (λ j l. rw (C.tables j l)))

pub served_by_course : (ts : Tables) (i : ℕ) → no_course ts i ≡ false → (q : Call (List ℕ)) → course_served ts i (Plain q) ≡ sharing (is_full ts i) (ts i) q
unfolding course_served
served_by_course ts i e q = rw e

-- a bundle that neither 1 nor 14 nor 19 refuses
pub bundle_sent : (ts : Tables) (i c n : ℕ) (batch : Batch) (board : List ℕ) → no_course ts i ≡ false → is_wrong_batch batch ≡ false → length board ≡ board_bytes
    → course_served ts i (Plain (Bundle c n batch board)) ≡ on_board (ts i) board (bundled (ts i) (sent_shared (is_full ts i) (ts i) c n (entries_of batch)))
unfolding batch_shared
bundle_sent ts i c n batch board e w b = let C = is_course ts i e in served_by_course ts i e (Bundle c n batch board) ∙ rw (C.tables i C.number, w, b)

-- fresh asks nothing of the other three
pub fresh-by_number : (ts : Tables) (i : ℕ) → i < courses → (single : Bool) (board : List ℕ) → course_served ts i (Fresh single board) ≡ made_fresh (ts i) single board
unfolding course_served no_fresh
fresh-by_number ts i l single board = rw (lt-ltb i courses l)

-- another number gives 1, and every byte stays
module _ (ts : Tables) (i : ℕ) (other : i < courses → ⊥) where
  no_number : ltb i courses ≡ false
  no_number = cases (ltb i courses) (λ e. absurd (other (ltb-true i courses e))) (λ e. e)

  pub no-such-course : (a : Ask) → course_served ts i a ≡ turned_away 1 (ts i) a
  unfolding course_served no_fresh no_course
  no-such-course (Fresh single board) = rw no_number
  no-such-course (Plain q) = rw no_number

  pub no-such-fresh : (single : Bool) (board : List ℕ) → course_served ts i (Fresh single board) ≡ record { reply = plainly 1 0 []; table = ts i; board = board }
  no-such-fresh single board = no-such-course (Fresh single board)

  pub none_written : (a : Ask) (j : ℕ) → j < courses → written ts (record { course = i; ask = a }) j ≡ ts j
  none_written a j l = written-other ts (record { course = i; ask = a }) j (λ e. other (subst (λ x. x < courses) e l))
