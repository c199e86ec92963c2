-- A call leaves a table a table, and 1 says that there was none: of every buffer, also one in range that no day made, and of every call.
use Rattle.std.specs.Prelude.{ℕ, Bool, true, false, ◌≡◌, ◌↔◌, List, length}
use Rattle.desk.specs.Calls.{Call}
use Rattle.table.specs.Halves.{is_table}
use Rattle.boards.specs.Board.{board_bytes}
use Rattle.table.specs.Out.{table_bytes}
use Rattle.table.specs.Calls.{fresh_out}
use Rattle.table.specs.Served.{served}

-- 1 "buffer length isn't 65,536, or a cell is out of its range": exactly then
pub record LeavesTable (t : List ℕ) (q : Call (List ℕ)) : Type 0 where
  pub stays : is_table t ≡ true → is_table (served t q).table ≡ true
  pub one : ((served t q).reply.code ≡ 1) ↔ (is_table t ≡ false)

abbrev pub StaysTable : Type 0
StaysTable = (t : List ℕ) (q : Call (List ℕ)) → LeavesTable t q

-- fresh makes one of any bytes, if they have the length
abbrev pub FreshMakesTable : Type 0
FreshMakesTable = (t : List ℕ) → length t ≡ table_bytes → (single : Bool) → is_table (fresh_out t single board_bytes).lent ≡ true
