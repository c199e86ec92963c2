-- The calls that a board is lent to: where the check of the table or of the board ends them, and what else they promise of a step that was taken or refused.
use Prim.Native.Nat.{ℕ, ◌≤◌}
use mathlib.Core.Bool.{Bool, true, false}
use mathlib.Core.Path.{◌≡◌, sym, ◌∙◌, ap}
use mathlib.Core.List.{List, ◌++◌}
use lib.Dec.{eqb}
use lib.ListN.{length, replicate}
use Rattle.lists.specs.Differences.{differences}
use Rattle.boards.specs.Board.{board_bytes, is_wrong_board}
use Rattle.cells.specs.Steps.{fresh_bytes}
use Rattle.entries.specs.Sizes as Upper
use Rattle.table.specs.Halves.{is_table}
use Rattle.table.specs.Answers.{refused, taken}
use Rattle.table.specs.Told.{left}
use Rattle.table.specs.Out.{Out, table_bytes}
use Rattle.table.specs.Calls.{board_out, fresh_board, fresh_out, join_out, sync_out}
use Rattle.table.specs.Light.{Light}
use Rattle.std.specs.Prelude.{Result}
use Rattle.table.specs.declared.refusal.Refusal.{Refusal}
use Rattle.table.proofs.Brings.{brings-nothing}
use Rattle.table.proofs.Light.{promised}

-- code 1, and right after it code 19
module _ (t : List ℕ) (room : ℕ) where
  pub no_join : is_table t ≡ false → (n m : ℕ) → refused t 1 ≡ join_out t n m room
  unfolding join_out
  no_join h n m = rw h

  pub no-sync : is_table t ≡ false → (m : ℕ) → refused t 1 ≡ sync_out t m room
  unfolding sync_out
  no-sync h m = rw h

  pub wrong-join : is_table t ≡ true → is_wrong_board room ≡ true → (n m : ℕ) → refused t 19 ≡ join_out t n m room
  unfolding join_out
  wrong-join h e n m = rw (h, e)

  pub wrong-sync : is_table t ≡ true → is_wrong_board room ≡ true → (m : ℕ) → refused t 19 ≡ sync_out t m room
  unfolding sync_out
  wrong-sync h e m = rw (h, e)

-- fresh: a day begun with a cleared board
module _ (t : List ℕ) (single : Bool) (board : List ℕ) where
  pub fresh-begun : (t' b : List ℕ) → eqb (length t) table_bytes ≡ true → length board ≡ board_bytes → t' ≡ fresh_bytes single ++ replicate Upper.entry_bytes 0 → b ≡ replicate (length board) 0
      → (taken t' 0 ≡ fresh_out t single (length board)) × (b ≡ fresh_board t single board)
  unfolding fresh_out fresh_board
  fresh-begun t' b h l e f = (rw (h, l) (ap (λ d. taken d 0) e), f ∙ rw (h, l))

-- a join or a sync: its answer and bytes, the board, and the places at which the table differs
module _ {t : List ℕ} {n : ℕ} {o : Out} (L : Light t n o) where
  pub shown : (a : Result ℕ Refusal) (t' board b : List ℕ) → left a t' ≡ o → b ≡ board_out t t' board → (left a t' ≡ o) × (b ≡ board_out t t' board) × (differences t t' ≤ n)
  shown a t' board b e f = let p = promised L a t' e in (p.0, f, p.1)

  -- refused: the board stays
  pub not-shown : (a : Result ℕ Refusal) (board : List ℕ) → left a t ≡ o → (left a t ≡ o) × (board ≡ board_out t t board) × (differences t t ≤ n)
  not-shown a board e = shown a t board board e (sym (brings-nothing t board))
