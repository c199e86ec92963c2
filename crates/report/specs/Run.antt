-- The steps of a day file run on a table, each by the table's own definition of the call. A yield and a join have a board of the right length lent.
use Rattle.std.specs.Prelude.{ℕ, zero, suc, List}
use Rattle.boards.specs.Board.{board_bytes}
use Rattle.dayfile.specs.Record.{step_at}
use Rattle.dayfile.specs.declared.step.Step.{Step}
use Rattle.dayfile.specs.declared.step.Step.TheVariants.{Update, Query, Yield, Fork, Join, Unknown}
use Rattle.table.specs.Answers.{refused}
use Rattle.table.specs.Out.{Out}
use Rattle.table.specs.Calls.{update_out, query_out, yield_out, fork_out, join_out}

-- 13: "strange step", "given by the program"; "A refusal gives value 0"
abbrev pub step_out : List ℕ → Step → Out
step_out t (Update c n k bib v) = update_out t c n k bib v
step_out t (Query c n bib) = query_out t c n bib
step_out t (Yield c) = yield_out t c board_bytes
step_out t (Fork n) = fork_out t n
step_out t (Join n m) = join_out t n m board_bytes
step_out t Unknown = refused t 13

-- the table after the first i records of f, from the table t on
unfoldable pub table_after : List ℕ → List ℕ → ℕ → List ℕ
table_after t f zero = t
table_after t f (suc i) = (step_out (table_after t f i) (step_at f i)).lent

-- what record i gives
abbrev pub out_at : List ℕ → List ℕ → ℕ → Out
out_at t f i = step_out (table_after t f i) (step_at f i)
