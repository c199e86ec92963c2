-- Demand 1: 00, "A refused call gives its number from the list with value 0 and changes no byte." Of every buffer, also one that is no table, and of every call.
use Rattle.std.specs.Prelude.{ℕ, Bool, ◌≡◌, ◌↔◌, List, [], ◌∷◌, length}
use Rattle.boards.specs.Board.{board_bytes}
use Rattle.table.specs.Out.{table_bytes}
use Rattle.table.specs.Calls.{fresh_board, fresh_out}
use Rattle.table.specs.Served.{served, sheet_of}
use Rattle.table.specs.Lent.{board_lent}
use Rattle.lists.specs.Lists.{◌∈◌}
use Rattle.desk.specs.Calls.{Call, plainly}
use Rattle.desk.specs.Listed.{codes_for}

-- "its number from the list": one of those that 01 lists for this call. "table and sheet keep every byte", and the board does; 02: "a refused one neither", "in a refusal both are 0", "state neither and gain 0"
pub record IsRefused (t : List ℕ) (q : Call (List ℕ)) : Type 0 where
  pub number : (served t q).reply.code ∈ codes_for q
  pub blank : served t q ≡ record { reply = plainly (served t q).reply.code 0 (sheet_of q); table = t; board = board_lent q }

abbrev pub RefusalsChangeNothing : Type 0
RefusalsChangeNothing = (t : List ℕ) (q : Call (List ℕ)) → ((served t q).reply.code ≡ 0 → ⊥) → IsRefused t q

-- of fresh: 1, for the length only, and 19
pub record IsFreshRefused (t : List ℕ) (single : Bool) (board : List ℕ) : Type 0 where
  pub number : (fresh_out t single (length board)).code ∈ (1 ∷ 19 ∷ [])
  pub value : (fresh_out t single (length board)).value ≡ 0
  pub table : (fresh_out t single (length board)).lent ≡ t
  pub board_stays : fresh_board t single board ≡ board

abbrev pub FreshRefused : Type 0
FreshRefused = (t : List ℕ) (single : Bool) (board : List ℕ) → ((fresh_out t single (length board)).code ≡ 0 → ⊥) → IsFreshRefused t single board

-- 1 before 19: without a table of the right length it is 1, with one it is 19 exactly if the board's length is another than 5,000
pub record FreshCodes (t : List ℕ) (single : Bool) (board : List ℕ) : Type 0 where
  pub one : ((fresh_out t single (length board)).code ≡ 1) ↔ (length t ≡ table_bytes → ⊥)
  pub wrong_board : ((fresh_out t single (length board)).code ≡ 19) ↔ ((length t ≡ table_bytes) × (length board ≡ board_bytes → ⊥))

abbrev pub FreshRefusedExactly : Type 0
FreshRefusedExactly = (t : List ℕ) (single : Bool) (board : List ℕ) → FreshCodes t single board
