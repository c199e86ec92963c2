-- 02, U14, at a table made fresh: after every list of calls a bill is that of the calls and their replies, and no further call lowers it.
use Rattle.std.specs.Prelude.{ℕ, ◌≤◌, Bool, ◌≡◌, List, ◌++◌, length}
use Rattle.boards.specs.Board.{board_bytes}
use Rattle.desk.specs.Calls.{Call, Answer}
use Rattle.plain.specs.Fills.{codes_of}
use Rattle.plain.specs.Bills.{bill_in}
use Rattle.table.specs.Out.{table_bytes}
use Rattle.table.specs.Calls.{bill_out, fresh_out}
use Rattle.consistency.specs.Table.{calls, replies_on, table_after}

-- "Boxes are counted from the history": the calls and the codes of the replies
abbrev pub bill_of : List (Call (List ℕ)) → List (Answer (List ℕ)) → Bool → ℕ
bill_of qs rs member = bill_in (calls qs) (codes_of rs) member

pub record BillsByHistory (t : List ℕ) (single : Bool) (qs : List (Call (List ℕ))) : Type 0 where
  pub told : (member : Bool) → bill_out (table_after (fresh_out t single board_bytes).lent qs) member ≡ record { code = 0; value = bill_of qs (replies_on (fresh_out t single board_bytes).lent qs) member }
  -- "Show that within a day no further step ever lowers a bill."
  pub grows : (more : List (Call (List ℕ))) (member : Bool)
      → (bill_out (table_after (fresh_out t single board_bytes).lent qs) member).value ≤ (bill_out (table_after (fresh_out t single board_bytes).lent (qs ++ more)) member).value

abbrev pub BillsOnDays : Type 0
BillsOnDays = (t : List ℕ) → length t ≡ table_bytes → (single : Bool) (qs : List (Call (List ℕ))) → BillsByHistory t single qs
