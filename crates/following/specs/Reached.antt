-- No claim rests on this file: it serves the proof of the agreement (crate consistency).
-- The cells, and the bytes, that a list of accepted steps makes of a fresh table.
use Rattle.std.specs.Prelude.{ℕ, Bool, true, false, List, [], ◌∷◌}
use Rattle.std.proofs.Math.Option.{Option, none, some}
use Rattle.lists.specs.Names.{Name}
use Rattle.diagram.specs.Day.{Day, fresh, number_of}
use Rattle.diagram.specs.Steps.{Step, Event, Yield, Fork, Join, Drop, after}
use Rattle.cells.specs.Cells.{Cells, next_number}
use Rattle.cells.specs.Decode.{cells}
use Rattle.cells.specs.CellSteps.{fresh_cells, update_cells, query_cells, close_cells, fork_cells, mark_cells, join_cells, drop_cells}
use Rattle.cells.specs.Steps.{fresh_bytes, update_bytes, query_bytes, close_bytes, fork_bytes, mark_bytes, join_bytes, drop_bytes}

-- a step as a table is told it: by the numbers that its revisions bear
abbrev pub by_number : Day → Step → Step
by_number y (Event c r u) = Event c (number_of y r) u
by_number y (Yield c) = Yield c
by_number y (Fork r name) = Fork (number_of y r) name
by_number y (Join a b) = Join (number_of y a) (number_of y b)
by_number y (Drop r) = Drop (number_of y r)

-- n forks c, or marks it with a name
abbrev pub branch_cells : Cells → ℕ → ℕ → Option Name → Cells
branch_cells k n c none = fork_cells k n c
branch_cells k n c (some w) = mark_cells k n c w

abbrev pub branch_bytes : List ℕ → ℕ → ℕ → Option Name → List ℕ
branch_bytes d n c none = fork_bytes d n c
branch_bytes d n c (some w) = mark_bytes d n c w

-- one step by numbers; a fork gives the next number
unfoldable pub step_cells : Cells → Step → Cells
step_cells k (Event c r true) = update_cells k c r
step_cells k (Event c r false) = query_cells k c r
step_cells k (Yield c) = close_cells k c
step_cells k (Fork n name) = branch_cells k n (next_number k) name
step_cells k (Join a b) = join_cells k a b
step_cells k (Drop n) = drop_cells k n

unfoldable pub cells_from : Day → Cells → List Step → Cells
cells_from y k [] = k
cells_from y k (s ∷ ss) = cells_from (after y s) (step_cells k (by_number y s)) ss

-- from a table made fresh with either choice (02, U8)
unfoldable pub cells_after : Bool → List Step → Cells
cells_after single ss = cells_from fresh (fresh_cells single) ss

-- the same on the bytes
unfoldable pub step_bytes : List ℕ → Step → List ℕ
step_bytes d (Event c r true) = update_bytes d c r
step_bytes d (Event c r false) = query_bytes d c r
step_bytes d (Yield c) = close_bytes d c
step_bytes d (Fork n name) = branch_bytes d n (next_number (cells d)) name
step_bytes d (Join a b) = join_bytes d a b
step_bytes d (Drop n) = drop_bytes d n

unfoldable pub bytes_from : Day → List ℕ → List Step → List ℕ
bytes_from y d [] = d
bytes_from y d (s ∷ ss) = bytes_from (after y s) (step_bytes d (by_number y s)) ss

unfoldable pub bytes_after : Bool → List Step → List ℕ
bytes_after single ss = bytes_from fresh (fresh_bytes single) ss
