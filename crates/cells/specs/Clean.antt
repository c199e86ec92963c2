-- 02, U7: a number that is used again starts clean. Two tables that differ only in what an earlier bearer of a number left show the same from
-- the fork or mark on that gives the number again.
use Rattle.std.specs.Prelude.{ℕ, true, ◌≡◌}
use Rattle.lists.specs.Names.{Name}
use Rattle.cells.specs.Sizes.{main}
use Rattle.cells.specs.Cells.{Cells, own, flagged}
use Rattle.cells.specs.Checks.{is_mark}
use Rattle.cells.specs.CellSteps.{fork_cells, mark_cells}

-- the same cells, but for those of number c: its record, its row, and its row and column of flags
pub record SameBut (c : ℕ) (k k' : Cells) : Type 0 where
  pub state : (r : ℕ) → (r ≡ c → ⊥) → k.state r ≡ k'.state r
  pub used : (r : ℕ) → (r ≡ c → ⊥) → k.used r ≡ k'.used r
  pub last : (r : ℕ) → (r ≡ c → ⊥) → k.last r ≡ k'.last r
  pub count : (r : ℕ) → (r ≡ c → ⊥) → k.count r ≡ k'.count r
  pub base : (r : ℕ) → (r ≡ c → ⊥) → k.base r ≡ k'.base r
  pub row : (r : ℕ) → (r ≡ c → ⊥) → k.row r ≡ k'.row r
  pub seen : (x y : ℕ) → (x ≡ c → ⊥) → (y ≡ c → ⊥) → k.seen x y ≡ k'.seen x y
  pub caught : (x r : ℕ) → (r ≡ c → ⊥) → k.caught x r ≡ k'.caught x r
  pub link : k.link ≡ k'.link
  pub layout : k.layout ≡ k'.layout
  pub out : k.out ≡ k'.out
  pub queue : k.queue ≡ k'.queue
  pub opened : k.opened ≡ k'.opened
  pub updates : k.updates ≡ k'.updates
  pub given : k.given ≡ k'.given
  pub name : (r : ℕ) → (r ≡ c → ⊥) → k.name r ≡ k'.name r
  pub single : k.single ≡ k'.single
  pub settled : k.settled ≡ k'.settled
  pub started : k.started ≡ k'.started

-- the same in all that a check, an order or a further step goes by: `first` and `last` of an empty own list, and the name of a
-- number that is no mark, are not among it
pub record ShowsSame (k k' : Cells) : Type 0 where
  pub state : (r : ℕ) → k.state r ≡ k'.state r
  pub count : (r : ℕ) → k.count r ≡ k'.count r
  pub base : (r : ℕ) → k.base r ≡ k'.base r
  pub own : (r : ℕ) → own k r ≡ own k' r
  pub inherited : (r u : ℕ) → flagged k r u ≡ flagged k' r u
  pub seen : (x y : ℕ) → k.seen x y ≡ k'.seen x y
  pub caught : (x r : ℕ) → k.caught x r ≡ k'.caught x r
  pub layout : k.layout ≡ k'.layout
  pub out : k.out ≡ k'.out
  pub queue : k.queue ≡ k'.queue
  pub opened : k.opened ≡ k'.opened
  pub updates : k.updates ≡ k'.updates
  pub given : k.given ≡ k'.given
  pub name : (r : ℕ) → is_mark k r ≡ true → k.name r ≡ k'.name r
  pub single : k.single ≡ k'.single
  pub settled : k.settled ≡ k'.settled
  pub started : k.started ≡ k'.started

abbrev pub StartsClean : Type 0
StartsClean = (c : ℕ) (k k' : Cells) → SameBut c k k' → (p : ℕ) → (p ≡ c → ⊥) → (main ≡ c → ⊥)
    → ShowsSame (fork_cells k p c) (fork_cells k' p c) × ((n : Name) → ShowsSame (mark_cells k p c n) (mark_cells k' p c n))
