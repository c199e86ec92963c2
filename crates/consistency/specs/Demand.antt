-- Demand 3 of the table, whole: for every buffer of the right length made fresh, with either choice (02, U8) and a board of the right length (U10), and every list of calls with any arguments, refused ones
-- included. `LineUp` is the claim about the plain day alone (crate `plain`); the agreement makes it one about the table.
use Rattle.std.specs.Prelude.{ℕ, Bool, ◌≡◌, length}
use mathlib.Core.List.{List, ◌∷◌, ◌++◌, Memᴰ}
use Rattle.desk.specs.Calls.{Call, Answer}
use Rattle.plain.specs.Answers.{answers, day_after}
use Rattle.plain.specs.LineUp.{LineUp}
use Rattle.boards.specs.Board.{board_bytes}
use Rattle.table.specs.Out.{table_bytes}
use Rattle.table.specs.Calls.{fresh_out}
use Rattle.consistency.specs.Table.{calls, replies_on, replies, table_after}
use Rattle.consistency.specs.Boards.{KeepsBoard}

pub record Explained (t : List ℕ) (single : Bool) (qs : List (Call (List ℕ))) : Type 0 where
  -- "Fresh accepts any content of the right length, starts a new day and gives 0."
  pub fresh_code : (fresh_out t single board_bytes).code ≡ 0
  pub fresh_value : (fresh_out t single board_bytes).value ≡ 0
  -- "Each call's code and all that it answers with, and the entries a taken list writes, are this day's."
  pub agreement : replies_on (fresh_out t single board_bytes).lent qs ≡ replies qs (answers single (calls qs))
  -- "A table made fresh and then used only through the calls never meets 1."
  pub sound : (r : Answer (List ℕ)) → Memᴰ r (replies_on (fresh_out t single board_bytes).lent qs) → r.code ≡ 1 → ⊥
  -- "a single claim about the whole list of calls, with one line-up for it"
  pub line_up : LineUp single (calls qs)
  -- 02, U10: "a board that was right before any call, and is lent to it if it takes one, is right after it", whatever board the calls before it had
  pub boards : (before rest : List (Call (List ℕ))) (q : Call (List ℕ)) → qs ≡ before ++ (q ∷ rest)
      → (board : List ℕ) → KeepsBoard (day_after single (calls before)) (table_after (fresh_out t single board_bytes).lent before) q board

abbrev pub DemandThree : Type 0
DemandThree = (t : List ℕ) → length t ≡ table_bytes → (single : Bool) (qs : List (Call (List ℕ))) → Explained t single qs
