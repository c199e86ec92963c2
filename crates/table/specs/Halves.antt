-- The lent buffer in halves: the revisions' 40,960 bytes, then the entries' 24,576. Of the claims those of specs/Light rest on this file, and those about any
-- buffer: `StaysTable`, `FreshMakesTable` (crate consistency), `OnesExactly`, `OnceAllMade` and `BundlesOneByOne` (crate courses). Else it serves the definitions of the calls.
use Rattle.std.specs.Prelude.{ℕ, Bool, ◌&&◌, List, eqb, length, take, drop}
use Rattle.table.specs.Out.{table_bytes}
use Rattle.cells.specs.Sizes as Lower
use Rattle.cells.specs.Cells.{Cells}
use Rattle.cells.specs.Decode.{cells}
use Rattle.cells.specs.Range.{in_range}

unfoldable pub low : List ℕ → List ℕ
low t = take Lower.lower_bytes t

unfoldable pub high : List ℕ → List ℕ
high t = drop Lower.lower_bytes t

-- the cells that the checks look at
abbrev pub cells_of : List ℕ → Cells
cells_of t = cells (low t)

-- code 1: "buffer length isn't 65,536, or a cell is out of its range"; the entries have every byte in range
unfoldable pub is_table : List ℕ → Bool
is_table t = eqb (length t) table_bytes && in_range (low t)
