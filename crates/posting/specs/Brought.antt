-- 02, U10: "the updates brought are applied in listed order to the entry found .. and the entry is written anew", by the entries of the table.
use Rattle.std.specs.Prelude.{ℕ, List}
use Rattle.updates.specs.Applied.{Update}
use Rattle.cells.specs.Cells.{Cells, brought}
use Rattle.entries.specs.Entries.{entry_at}
use Rattle.boards.specs.Board.{posted, posted_all}

-- what update n is, in the entries' bytes
abbrev pub bib_at : List ℕ → ℕ → ℕ
bib_at t n = (entry_at t n).bib

abbrev pub update_at : List ℕ → ℕ → Update
update_at t n = record { kind = (entry_at t n).kind; v = (entry_at t n).v }

abbrev pub entry_posted : List ℕ → ℕ → List ℕ → List ℕ
entry_posted t n board = posted board (bib_at t n) (update_at t n)

abbrev pub entries_posted : List ℕ → List ℕ → List ℕ → List ℕ
entries_posted t ns board = posted_all (bib_at t) (update_at t) ns board

-- the board after a call: k and k' are the cells before and after it, t the entries after it
abbrev pub board_after : Cells → Cells → List ℕ → List ℕ → List ℕ
board_after k k' t board = entries_posted t (brought k k') board
