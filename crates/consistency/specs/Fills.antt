-- 02, U1, at a table: "show that on a day as in demand 3 own updates, summed over all boxes out, always equal the updates
-- accepted since fresh, that number being counted from the history". Always: after every list of calls.
use Rattle.std.specs.Prelude.{ℕ, Bool, ◌≡◌, List, length}
use Rattle.lists.specs.Sums.{sum_below}
use Rattle.cells.specs.Sizes.{revisions}
use Rattle.desk.specs.Calls.{Call, Answer}
use Rattle.plain.specs.Fills.{accepted_in, codes_of}
use Rattle.boards.specs.Board.{board_bytes}
use Rattle.table.specs.Out.{table_bytes}
use Rattle.table.specs.Calls.{fresh_out, fill_out}
use Rattle.consistency.specs.Table.{calls, replies_on, table_after}

-- what a fill of each number tells; of one that is not out it tells 0
abbrev pub fill_sum : List ℕ → ℕ
fill_sum t = sum_below revisions (λ n. (fill_out t n).own)

-- the history: the calls and the codes of the replies
abbrev pub accepted_updates : List (Call (List ℕ)) → List (Answer (List ℕ)) → ℕ
accepted_updates qs rs = accepted_in (calls qs) (codes_of rs)

pub record FillsAddUp (t : List ℕ) (single : Bool) (qs : List (Call (List ℕ))) : Type 0 where
  pub sum : fill_sum (table_after (fresh_out t single board_bytes).lent qs) ≡ accepted_updates qs (replies_on (fresh_out t single board_bytes).lent qs)
  -- "the number taken by the whole table" is the same number, whichever box is asked
  pub total : (n : ℕ) → (fill_out (table_after (fresh_out t single board_bytes).lent qs) n).code ≡ 0
      → (fill_out (table_after (fresh_out t single board_bytes).lent qs) n).total ≡ accepted_updates qs (replies_on (fresh_out t single board_bytes).lent qs)

abbrev pub FillsAddUpOnDays : Type 0
FillsAddUpOnDays = (t : List ℕ) → length t ≡ table_bytes → (single : Bool) (qs : List (Call (List ℕ))) → FillsAddUp t single qs
