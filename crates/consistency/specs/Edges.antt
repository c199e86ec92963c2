-- 01, "Edges of a race day", and those of 02, at a table.
use Rattle.std.specs.Prelude.{ℕ, Bool, true, false, ◌≡◌, List, [], ◌∷◌, length, replicate}
use Rattle.desk.specs.Calls.{calls_on}
use Rattle.plain.specs.Edges.{Edge, Said, edges, codes, reused, marks, on_line, orders, boards, bills, expected, said}
use Rattle.boards.specs.Board.{board_bytes}
use Rattle.table.specs.Out.{table_bytes}
use Rattle.table.specs.Calls.{fresh_out}
use Rattle.consistency.specs.Table.{replies_on}

-- the starred edges at a table; a list is given a sheet of zeros, and so is a call that takes a board
abbrev pub computed_on : List ℕ → Bool → List Edge → List (List Said)
computed_on t single [] = []
computed_on t single (e ∷ es) = said (replies_on (fresh_out t single board_bytes).lent (calls_on (λ room. replicate room 0) e.calls)) ∷ computed_on t single es

abbrev pub EdgesHold : Type 0
EdgesHold =
    (t : List ℕ) → length t ≡ table_bytes
    → (computed_on t false edges ≡ expected edges) × (computed_on t false codes ≡ expected codes) × (computed_on t false reused ≡ expected reused) × (computed_on t false marks ≡ expected marks)
    × (computed_on t true on_line ≡ expected on_line) × (computed_on t false orders ≡ expected orders) × (computed_on t false boards ≡ expected boards)
    × (computed_on t false bills ≡ expected bills)
