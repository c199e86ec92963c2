-- A table made fresh is the same whatever the bytes were.
use Prim.Native.Nat.{ℕ}
use mathlib.Core.Bool.{false}
use mathlib.Core.Path.{◌≡◌, sym, ◌∙◌, ap}
use mathlib.Core.List.{List, ◌++◌}
use lib.ListN.{length, replicate, length-replicate}
use borrow.Author.Tests.{eq-eqb}
use Rattle.boards.specs.Board.{board_bytes}
use Rattle.cells.specs.Steps.{fresh_bytes}
use Rattle.entries.specs.Sizes as Upper
use Rattle.table.specs.Answers.{taken}
use Rattle.table.specs.Out.{Out, table_bytes}
use Rattle.table.specs.Calls.{fresh_out}
use Rattle.report.specs.Printed.{fresh_table}

abbrev made : Out
made = taken (fresh_bytes false ++ replicate Upper.entry_bytes 0) 0

fresh-made : (t : List ℕ) → length t ≡ table_bytes → fresh_out t false board_bytes ≡ made
unfolding fresh_out
fresh-made t h = rw (eq-eqb (length t) table_bytes h)

pub fresh-table : (t : List ℕ) (room : ℕ) → length t ≡ table_bytes → room ≡ board_bytes → (fresh_out t false room).lent ≡ fresh_table
unfolding fresh_table
fresh-table t room h l = ap (λ n. (fresh_out t false n).lent) l ∙ ap (λ (o : Out). o.lent) (fresh-made t h ∙ sym (fresh-made (replicate table_bytes 0) (length-replicate {A = ℕ} table_bytes 0)))
