-- No claim rests on this file: it serves the code. What the board's step behind a call (02, U10) asks of the table that the call left.
use Rattle.std.specs.Prelude.{◌≡◌, ℕ, List, true}
use Rattle.cells.specs.Cells.{Settles}
use Rattle.table.specs.Halves.{cells_of, is_table}

-- t' is left of the table t, so that what was brought can be found
pub record Shows (t t' : List ℕ) : Type 0 where
  pub table : is_table t' ≡ true
  pub settles : Settles (cells_of t).settled (cells_of t')
