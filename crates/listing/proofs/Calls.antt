-- A list and a fill from what their checks find.
use Prim.Native.Nat.{ℕ}
use mathlib.Core.Bool.{true, false}
use mathlib.Core.Path.{◌≡◌}
use mathlib.Core.List.{List}
use Rattle.cells.specs.Decode.{cells}
use Rattle.sizes.specs.declared.numbers.Revision.{Revision}
use Rattle.table.specs.Halves.{low, is_table}
use Rattle.table.specs.Answers.{refused}
use Rattle.table.specs.Calls.{list_out, fill_out, no_fill}
use Rattle.table.specs.Found.{on_ok, fill_in, shown_out}
use Rattle.table.specs.Checks.{idle_check}
use Rattle.std.specs.Prelude.{Result}
use Rattle.table.specs.Told.{code_of}
use Rattle.table.specs.declared.refusal.Refusal.{Refusal}
use Rattle.table.proofs.Calls.{given_is, ok_cond}

-- the calls on bytes that are no table
module _ (t : List ℕ) (h : is_table t ≡ false) where
  pub no-list : (n : ℕ) (s : List ℕ) → refused s 1 ≡ list_out t n s
  unfolding list_out
  no-list n s = rw h

  pub no-fill : (n : ℕ) → no_fill 1 ≡ fill_out t n
  unfolding fill_out
  no-fill n = rw h

-- a list on a table, from what its checks find
pub list_by : (t : List ℕ) → is_table t ≡ true → (n : ℕ) (s : List ℕ) (z : Result Revision Refusal) → idle_check (low t) n ≡ z → on_ok z (λ e. refused s (code_of e)) (λ r. shown_out t r.0 s) ≡ list_out t n s
unfolding idle_check list_out shown_out on_ok
list_by t h n s z e = rw (← e) (simp (given_is, ok_cond, h))

-- a fill of bytes that are a table
pub fill_of : (t : List ℕ) (n : ℕ) → is_table t ≡ true → fill_in (cells (low t)) n ≡ fill_out t n
unfolding fill_in fill_out
fill_of t n h = rw h
