-- 02, U8: a sync's fork, on the table that its join left: it is taken, whatever the table was.
use Prim.Native.Nat.{ℕ, ◌<◌}
use mathlib.Core.Bool.{true, false, not, and-false}
use mathlib.Core.Path.{◌≡◌, sym, ap, ◌∙◌}
use mathlib.Core.List.{List, ◌++◌}
use native.Mathlib.Omega.{arith}
use lib.Dec.{eqb, ltb}
use borrow.Author.Tests.{ltb-true, ne_eqb, not-false}
use Rattle.lists.proofs.Cases.{and-true, or-false}
use Rattle.desk.specs.Calls.{Join, Sync}
use Rattle.desk.specs.Checks.{checks}
use Rattle.desk.proofs.Checks.{Passed, ◌also◌}
use Rattle.cells.specs.Sizes.{revisions}
use Rattle.cells.specs.Cells.{Cells, next_number}
use Rattle.cells.specs.Decode.{cells}
use Rattle.cells.specs.Checks.{given_out, joined, busy, joinable, none_left}
use Rattle.cells.specs.CellSteps.{join_cells}
use Rattle.cells.specs.Steps.{fork_bytes, join_bytes}
use Rattle.cells.proofs.Decoded.{join-decoded}
use Rattle.cells.proofs.Left.{join-leaves}
use Rattle.cells.proofs.Stays.{Lower, join-stays, joinee_some}
use Rattle.table.specs.Halves.{cells_of, high, is_table, low}
use Rattle.table.specs.Answers.{taken}
use Rattle.table.specs.Calls.{as_one, asked, fork_out, join_end}
use Rattle.table.proofs.Halves.{high_of, low_of, lower_of, table_of, upper_length}

-- a join into the main revision leaves it as it was
module _ (k : Cells) (m : ℕ) (pos : 0 < m) where
  away : eqb 0 m ≡ false
  away = ne_eqb 0 m (λ e. absurd (omega arith))

  still-given : given_out (join_cells k 0 m) 0 ≡ given_out k 0
  still-given = rw away

  still_out : joined (join_cells k 0 m) 0 ≡ joined k 0
  still_out = rw away

module _ (t : List ℕ) (h : is_table t ≡ true) (m : ℕ) (ml : m < revisions) (pos : 0 < m) where
  abbrev d : List ℕ
  d = join_bytes (low t) 0 m

  pub left-lower : Lower d
  left-lower = join-stays (low t) (lower_of t h).1 0 m (omega arith) ml pos

  -- what the join left is a table
  pub left-table : is_table (d ++ high t) ≡ true
  left-table = table_of d (high t) left-lower (upper_length t (lower_of t h).0)

  left-cells : cells_of (d ++ high t) ≡ join_cells (cells_of t) 0 m
  left-cells = ap cells (low_of d (high t) left-lower.long) ∙ join-decoded (low t) (lower_of t h).1 0 m (omega arith) ml

  left-room : none_left (join_cells (cells_of t) 0 m) ≡ false
  left-room = sym (ap none_left (join-decoded (low t) (lower_of t h).1 0 m (omega arith) ml)) ∙ join-leaves (low t) (lower_of t h).1 0 m (omega arith) ml

  pub sync-forks : given_out (cells_of t) 0 ≡ true → joined (cells_of t) 0 ≡ false → busy (cells_of t) 0 ≡ false
      → fork_out (join_end t 0 m).lent 0 ≡ taken (fork_bytes d 0 (next_number (cells d)) ++ high t) (next_number (cells d))
  unfolding fork_out
  sync-forks g j b =
      rw (left-table, left-cells, still-given (cells_of t) m pos, g, still_out (cells_of t) m pos, j, and-false, b, left-room)
      (rw (low_of d (high t) left-lower.long, high_of d (high t) left-lower.long, join-decoded (low t) (lower_of t h).1 0 m (omega arith) ml))

-- what the checks of a join leave of the table, the joiner and the joinee
pub record Joins (t : List ℕ) (n m : ℕ) : Type 0 where
  pub table : is_table t ≡ true
  pub joiner : n < revisions
  pub joinee : m < revisions
  pub some : 0 < m
  pub given : given_out (cells_of t) n ≡ true
  pub out : joined (cells_of t) n ≡ false
  pub idle : busy (cells_of t) n ≡ false

pub joins : (t : List ℕ) (n m room : ℕ) → Passed (checks (asked t) (Join n m room)) → Joins t n m
joins t n m room (e1 also e19 also e3 also e4 also e15 also e16 also e7 also e11 also P) =
    let k = cells_of t in
    let never = or-false (not (given_out k n)) (not (given_out k m)) e3 in
    let given-n = not-false (given_out k n) never.0 in
    let given-m = not-false (given_out k m) never.1 in
    record {
      table = not-false (is_table t) e1;
      joiner = ltb-true n revisions (and-true (ltb n revisions) _ given-n).0;
      joinee = ltb-true m revisions (and-true (ltb m revisions) _ given-m).0;
      some = joinee_some k n m (not-false (joinable k n m) e11);
      given = given-n;
      out = (or-false (joined k n) (joined k m) e4).0;
      idle = (or-false (busy k n) (busy k m) e7).0;
    }

-- so a sync whose checks find nothing is taken
pub sync-ends : (t : List ℕ) (m room : ℕ) → Passed (checks (asked t) (Sync m room))
    → as_one t (fork_out (join_end t 0 m).lent 0) ≡ taken (fork_bytes (join_bytes (low t) 0 m) 0 (next_number (cells (join_bytes (low t) 0 m))) ++ high t) (next_number (cells (join_bytes (low t) 0 m)))
sync-ends t m room P = let J = joins t 0 m room P in ap (as_one t) (sync-forks t J.table m J.joinee J.some J.given J.out J.idle)
