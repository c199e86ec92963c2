-- A list of calls at a table, each served by the definitions that the code is equal to, and an answer on paper as a caller would have it.
use Rattle.std.specs.Prelude.{ℕ, ◌*◌, List, [], ◌∷◌, ◌++◌, length, drop}
use Rattle.lists.specs.Lists.{flat}
use Rattle.desk.specs.Calls.{Call, Answer, answer_on, calls_on}
use Rattle.sheets.specs.Lines.{line}
use Rattle.plain.specs.Record.{Line}
use Rattle.table.specs.Served.{served, sheet_of}

-- at a table a sheet or a board is bytes; on paper "only the length" is told
abbrev pub calls : List (Call (List ℕ)) → List (Call ℕ)
calls qs = calls_on length qs

-- the replies of a table to a list of calls, each getting it as the last one left it
unfoldable pub replies_on : List ℕ → List (Call (List ℕ)) → List (Answer (List ℕ))
replies_on t [] = []
replies_on t (q ∷ qs) = (served t q).reply ∷ replies_on (served t q).table qs

-- the table as a list of calls leaves it
unfoldable pub table_after : List ℕ → List (Call (List ℕ)) → List ℕ
table_after t [] = t
table_after t (q ∷ qs) = table_after (served t q).table qs

-- the lines of a listing on paper, "n entries of 12 bytes"
abbrev pub in_bytes : List Line → List ℕ
in_bytes ls = flat (λ l. line l.entry l.number) ls

-- an answer on paper as a caller gets it: the lines come first, and "Bytes from 12 n on stay."
abbrev pub sheet_with : List Line → List ℕ → List ℕ
sheet_with ls sheet = in_bytes ls ++ drop (12 * length ls) sheet

unfoldable pub replies : List (Call (List ℕ)) → List (Answer (List Line)) → List (Answer (List ℕ))
replies [] more = []
replies (q ∷ qs) [] = []
replies (q ∷ qs) (a ∷ more) = answer_on (λ ls. sheet_with ls (sheet_of q)) a ∷ replies qs more
