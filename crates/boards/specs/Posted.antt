-- What a list of updates leaves of any board of 5,000 bytes, bib by bib, and of a board that was right.
use Rattle.std.specs.Prelude.{ℕ, ◌<◌, ◌≡◌, List, [], length}
use Rattle.updates.specs.Applied.{Update, applied, of_bib}
use Rattle.updates.specs.declared.standing.Standing.{Standing}
use Rattle.boards.specs.Board.{board_bytes, bibs, board_of, entry_of, found, posted_all, shown}

pub record Posted (bib_of : ℕ → ℕ) (update : ℕ → Update) (ns board : List ℕ) : Type 0 where
  pub long : length (posted_all bib_of update ns board) ≡ board_bytes
  -- "a board is altered only at bibs that they bring"
  pub others : (bib : ℕ) → bib < bibs → of_bib bib_of update bib ns ≡ [] → entry_of (posted_all bib_of update ns board) bib ≡ entry_of board bib
  -- "where the updates brought are applied in listed order to the entry found .. and the entry is written anew"
  pub there : (bib : ℕ) → bib < bibs → (of_bib bib_of update bib ns ≡ [] → ⊥)
      → entry_of (posted_all bib_of update ns board) bib ≡ shown (applied (of_bib bib_of update bib ns) (found board bib))

abbrev pub PostedByBib : Type 0
PostedByBib = (bib_of : ℕ → ℕ) (update : ℕ → Update) (ns board : List ℕ) → length board ≡ board_bytes → Posted bib_of update ns board

-- the board of some standings, after the updates, is the board of the standings after them
abbrev pub StaysRight : Type 0
StaysRight = (bib_of : ℕ → ℕ) (update : ℕ → Update) (ns : List ℕ) (s : ℕ → Standing)
    → posted_all bib_of update ns (board_of s) ≡ board_of (λ bib. applied (of_bib bib_of update bib ns) (s bib))
