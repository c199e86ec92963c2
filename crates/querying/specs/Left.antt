-- No claim rests on this file: it serves the code.
-- What a walk back along an own list still has in front of it.
use Rattle.std.specs.Prelude.{ℕ, List}
use Rattle.cells.specs.Cells.{chain, flagged}
use Rattle.cells.specs.Decode.{cells}
use Rattle.cells.specs.Order.{picks}

-- of the n updates that end at `at` those that r sees, the first `base` and those flagged; d is the cells' bytes
abbrev pub left : List ℕ → ℕ → ℕ → ℕ → ℕ → List ℕ
left d r base at n = picks base (flagged (cells d) r) (chain (cells d).link at n)
