-- No claim rests on this file: it serves the code.
-- A buffer in which own updates are gathered along their links, the last one first.
use Rattle.std.specs.Prelude.{ℕ, List, ◌++◌, drop}
use Rattle.cells.specs.Cells.{chain}
use Rattle.cells.specs.Decode.{cells}

-- the buffer with the n updates that end at `at` in its first n places; d is the cells' bytes
abbrev pub with_chain : List ℕ → ℕ → ℕ → List ℕ → List ℕ
with_chain d at n out = chain (cells d).link at n ++ drop n out
