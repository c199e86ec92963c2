-- 02, U13, at a table: of every buffer and file, what a taken verify says; and of a table made fresh, after every list of calls, that our own line-up gets a yes.
use Rattle.std.specs.Prelude.{ℕ, ◌<◌, Bool, true, ◌≡◌, ◌↔◌, List, length}
use Rattle.lists.specs.Lists.{◌∈◌}
use Rattle.orderfile.specs.File.{numbers_in, file_of}
use Rattle.orderfile.specs.Fits.{Fits}
use Rattle.cells.specs.Sizes.{revisions}
use Rattle.cells.specs.Order.{order}
use Rattle.desk.specs.Calls.{Call}
use Rattle.diagram.specs.Arbitration.{Explains}
use Rattle.plain.specs.Taken.{end_of}
use Rattle.plain.specs.Orders.{updates_in}
use Rattle.table.specs.Halves.{cells_of}
use Rattle.boards.specs.Board.{board_bytes}
use Rattle.table.specs.Out.{table_bytes}
use Rattle.table.specs.Calls.{fresh_out, is_out, verify_out}
use Rattle.consistency.specs.Table.{calls, table_after}

-- by the cells: the updates taken, the numbers of the boxes out, and what each lists
abbrev pub FitsTable : List ℕ → List ℕ → Type 0
FitsTable t file = Fits (cells_of t).updates (λ n. (n < revisions) × (is_out (cells_of t) n ≡ true)) (order (cells_of t)) (numbers_in file)

-- "Say yes, value 1, and else value 0, exactly if .."
pub record Says (t file : List ℕ) : Type 0 where
  pub agrees : ((verify_out t file).value ≡ 1) ↔ FitsTable t file
  pub else_none : ((verify_out t file).value ≡ 1 → ⊥) → (verify_out t file).value ≡ 0

abbrev pub VerdictsFit : Type 0
VerdictsFit = (t file : List ℕ) → (verify_out t file).code ≡ 0 → Says t file

-- "Our own line-up of demand 3 .. must get a yes when written so": any line-up that explains the day, as a file of bytes
pub record OwnGetsYes (t file : List ℕ) : Type 0 where
  pub are_bytes : (b : ℕ) → b ∈ file → b < 256
  pub is_yes : verify_out t file ≡ record { code = 0; value = 1 }

abbrev pub OwnOrdersOnDays : Type 0
OwnOrdersOnDays =
    (t : List ℕ) → length t ≡ table_bytes → (single : Bool) (qs : List (Call (List ℕ))) (own : List ℕ) → Explains (end_of single (calls qs)) own
    → OwnGetsYes (table_after (fresh_out t single board_bytes).lent qs) (file_of (updates_in (end_of single (calls qs)) own))
