-- No claim rests on this file: it serves the code.
-- How many updates some own lists have together.
use Rattle.std.specs.Prelude.{ℕ, ◌+◌, List, [], ◌∷◌}
use Rattle.cells.specs.Cells.{Cells}

abbrev pub counts : Cells → List ℕ → ℕ
counts k [] = 0
counts k (x ∷ l) = k.count x + counts k l
