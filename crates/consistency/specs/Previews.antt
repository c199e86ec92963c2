-- 02, U6, at a table, by the calls themselves and for every buffer: a taken preview is "equal to joining on a copy of the table and reading there".
use Rattle.std.specs.Prelude.{ℕ, ◌≡◌, List}
use Rattle.boards.specs.Board.{board_bytes}
use Rattle.table.specs.Calls.{join_out, preview_out, query_out}

-- the join on a copy, with a board of the right length, is taken, with the preview's gain, and whatever client may query the joiner there has the preview's state and value
pub record FollowsJoin (t : List ℕ) (n m bib : ℕ) : Type 0 where
  pub joins : (join_out t n m board_bytes).code ≡ 0
  pub gain : (preview_out t n m bib).gain ≡ (join_out t n m board_bytes).value
  pub state : (c : ℕ) → (query_out (join_out t n m board_bytes).lent c n bib).code ≡ 0 → (query_out (join_out t n m board_bytes).lent c n bib).state ≡ (preview_out t n m bib).state
  pub value : (c : ℕ) → (query_out (join_out t n m board_bytes).lent c n bib).code ≡ 0 → (query_out (join_out t n m board_bytes).lent c n bib).value ≡ (preview_out t n m bib).value

abbrev pub PreviewsFollowJoins : Type 0
PreviewsFollowJoins = (t : List ℕ) (n m bib : ℕ) → (preview_out t n m bib).code ≡ 0 → FollowsJoin t n m bib
