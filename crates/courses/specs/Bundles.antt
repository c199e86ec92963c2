-- 02, U4 and U12: a bundle of a course is its updates "one by one and then a yield", asked of the four tables; "the code of the earliest is given".
use Rattle.std.specs.Prelude.{ℕ, false, cond, ◌≡◌, List, [], ◌∷◌, eqb, length}
use Rattle.bundles.specs.declared.entry.Entry.{Entry}
use Rattle.boards.specs.Board.{board_bytes}
use Rattle.desk.specs.Calls.{Batch, Bundle, Update, Yield, entries_of, is_wrong_batch}
use Rattle.card.specs.Courses.{CourseCall, Plain, Tables, counts, course_served, no_course}
use Rattle.courses.specs.Heard.{Heard, heard, tables_after}

-- the calls of course i that a bundle stands for
abbrev pub singly : ℕ → ℕ → ℕ → List Entry → List ℕ → List CourseCall
singly i c n [] board = record { course = i; ask = Plain (Yield c board) } ∷ []
singly i c n (e ∷ es) board = record { course = i; ask = Plain (Update c n e.kind e.bib e.v) } ∷ singly i c n es board

-- the code of the earliest that is refused; 0 if none is
unfoldable pub first_code : List Heard → ℕ
first_code [] = 0
first_code (h ∷ hs) = cond (eqb h.got.reply.code 0) (first_code hs) h.got.reply.code

-- so a 20 of entry 3 comes before a 5 of entry 4
pub record OneByOne (ts : Tables) (i c n : ℕ) (batch : Batch) (board : List ℕ) : Type 0 where
  pub code : (course_served ts i (Plain (Bundle c n batch board))).reply.code ≡ first_code (heard i ts (singly i c n (entries_of batch) board))
  pub table : (course_served ts i (Plain (Bundle c n batch board))).reply.code ≡ 0
      → (course_served ts i (Plain (Bundle c n batch board))).table ≡ tables_after ts (singly i c n (entries_of batch) board) i
  -- "The value is the first entry's number": as many as its table had taken
  pub value : (course_served ts i (Plain (Bundle c n batch board))).reply.code ≡ 0 → (course_served ts i (Plain (Bundle c n batch board))).reply.value ≡ counts ts i

-- where 1, 14 and 19 don't apply
abbrev pub BundlesOneByOne : Type 0
BundlesOneByOne =
    (ts : Tables) (i c n : ℕ) (batch : Batch) (board : List ℕ) → no_course ts i ≡ false → is_wrong_batch batch ≡ false → length board ≡ board_bytes → OneByOne ts i c n batch board
