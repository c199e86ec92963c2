-- 02, U8, at a table: of every buffer, what a taken sync is; and of a table made fresh, after every list of calls, that 11 arises only with joinee 0 on
-- single-main days and that a sync never meets 10. What a sync makes visible is said of the day (`LineUp.single_main`).
use Rattle.std.specs.Prelude.{ℕ, Bool, true, ◌≡◌, List, length}
use Rattle.desk.specs.Calls.{Call}
use Rattle.boards.specs.Board.{board_bytes}
use Rattle.table.specs.Out.{table_bytes}
use Rattle.table.specs.Calls.{fresh_out, fork_out, join_out, preview_out, sync_out}
use Rattle.consistency.specs.Table.{table_after}

-- "joins it into box 0, then forks box 0": the join is taken, and the sync is the fork of what the join left
abbrev pub SyncsAreBoth : Type 0
SyncsAreBoth = (t : List ℕ) (m room : ℕ) → (sync_out t m room).code ≡ 0 → ((join_out t 0 m room).code ≡ 0) × (sync_out t m room ≡ fork_out (join_out t 0 m room).lent 0)

-- 15 stands in the join's row and never applies to a sync: box 0 is on the line
abbrev pub NeverOffLine : Type 0
NeverOffLine = (t : List ℕ) (m room : ℕ) → (sync_out t m room).code ≡ 15 → ⊥

-- the table left by some calls
pub record SyncsGoOn (t : List ℕ) (single : Bool) : Type 0 where
  pub never_ten : (m room : ℕ) → (sync_out t m room).code ≡ 10 → ⊥
  pub join_eleven : single ≡ true → (n m room : ℕ) → (join_out t n m room).code ≡ 11 → m ≡ 0
  pub sync_eleven : single ≡ true → (m room : ℕ) → (sync_out t m room).code ≡ 11 → m ≡ 0
  pub preview_eleven : single ≡ true → (n m bib : ℕ) → (preview_out t n m bib).code ≡ 11 → m ≡ 0

abbrev pub SyncsOnDays : Type 0
SyncsOnDays = (t : List ℕ) → length t ≡ table_bytes → (single : Bool) (qs : List (Call (List ℕ))) → SyncsGoOn (table_after (fresh_out t single board_bytes).lent qs) single
