-- What the answers of the checks of a whole buffer say: code 1 of a table, 19 of a board.
use Prim.Native.Nat.{ℕ}
use mathlib.Core.Bool.{Bool, true, false, cond, ◌&&◌}
use mathlib.Core.Path.{◌≡◌}
use mathlib.Core.List.{List}
use lib.Dec.{eqb}
use lib.ListN.{length}
use borrow.Author.Tests.{eqb-true, not-false}
use Rattle.lists.proofs.Cases.{and-true}
use Rattle.lists.proofs.Told.{held, failed, Told, told}
use Rattle.boards.specs.Board.{board_bytes, board_check, is_wrong_board}
use Rattle.boards.specs.declared.check.BoardCheck.TheVariants as board
use Rattle.cells.specs.Range.{in_range}
use Rattle.ranges.specs.Answers.{range_check}
use Rattle.ranges.specs.declared.range.RangeCheck.TheVariants as range
use Rattle.table.specs.Halves.{low, is_table}
use Rattle.table.specs.Out.{table_bytes}
use Rattle.table.specs.Checks.{length_check, table_check}
use Rattle.table.specs.declared.sound.LengthCheck.TheVariants as buffer
use Rattle.table.specs.declared.sound.TableCheck.TheVariants as table

-- the length
pub length-told : (t : List ℕ) → Told (eqb (length t) table_bytes) buffer.Right buffer.Wrong (length_check t)
unfolding length_check
length-told t = told _ _ _ (λ h. cc)

pub long : (t : List ℕ) → length_check t ≡ buffer.Right → length t ≡ table_bytes
long t e = eqb-true (length t) table_bytes ((length-told t).holds e)

-- the length, then the cells
and_right : {A : Type 0} (a b : Bool) (x y : A) → a ≡ true → b ≡ false → y ≡ cond (a && b) x y
and_right a b x y e f = rw (e, f)

and_both : {A : Type 0} (a b : Bool) (x y : A) → a ≡ true → b ≡ true → x ≡ cond (a && b) x y
and_both a b x y e f = rw (e, f)

pub wrong-cells : (t : List ℕ) → length_check t ≡ buffer.Right → range_check (low t) ≡ range.Damaged → table.Damaged ≡ table_check t
unfolding table_check is_table range_check
wrong-cells t h e = and_right _ _ _ _ ((length-told t).holds h) (failed _ _ _ _ (λ d. cc) e).0

pub right_cells : (t : List ℕ) → length_check t ≡ buffer.Right → range_check (low t) ≡ range.Sound → table.Sound ≡ table_check t
unfolding table_check is_table range_check
right_cells t h e = and_both _ _ _ _ ((length-told t).holds h) (held _ _ _ _ (λ d. cc) e).0

-- what the calls go on with
pub is-table : (t : List ℕ) → table_check t ≡ table.Sound → (is_table t ≡ true) × (length t ≡ table_bytes) × (in_range (low t) ≡ true)
unfolding table_check is_table
is-table t e =
    let h = (held (is_table t) _ _ _ (λ d. cc) e).0 in
    let p = and-true (eqb (length t) table_bytes) (in_range (low t)) h in
    (h, eqb-true (length t) table_bytes p.0, p.1)

pub no_table : (t : List ℕ) → table_check t ≡ table.Damaged → is_table t ≡ false
unfolding table_check
no_table t e = (failed (is_table t) _ _ _ (λ d. cc) e).0

-- a board by its length
pub board-long : (n : ℕ) → board_check n ≡ board.Sound → n ≡ board_bytes
unfolding board_check
board-long n e = eqb-true n board_bytes (not-false (eqb n board_bytes) (failed (is_wrong_board n) _ _ _ (λ d. cc) e).0)

pub board-wrong : (n : ℕ) → board_check n ≡ board.Wrong → is_wrong_board n ≡ true
unfolding board_check
board-wrong n e = (held (is_wrong_board n) _ _ _ (λ d. cc) e).0
