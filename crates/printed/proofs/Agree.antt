-- Record by record, the table stands for the day on paper, and each line is the same.
use Prim.Native.Nat.{ℕ, zero, suc}
use mathlib.Core.Bool.{false}
use mathlib.Core.Path.{◌≡◌, refl, ap}
use mathlib.Core.List.{List, ◌++◌}
use lib.ListN.{replicate, length-replicate}
use Rattle.text.specs.Placed.{ascii}
use Rattle.text.specs.Decimal.{ended}
use Rattle.boards.specs.Board.{board_bytes}
use Rattle.dayfile.specs.File.{file_check}
use Rattle.dayfile.specs.Record.{step_at}
use Rattle.std.specs.declared.option.Option.{Option}
use Rattle.std.specs.declared.option.Option.TheVariants.{Some, None}
use Rattle.dayfile.specs.declared.step.Step.{Step}
use Rattle.dayfile.specs.declared.step.Step.TheVariants.{Update, Query, Yield, Fork, Join, Unknown}
use Rattle.plain.specs.Record.{PlainDay}
use Rattle.table.specs.Out.{table_bytes}
use Rattle.consistency.proofs.Table.Stands.{Stands}
use Rattle.consistency.proofs.Table.Calls.{OnTable, refused-same, update_same, query-same, yield-same, fork-same, join-same}
use Rattle.consistency.proofs.Table.Follows.{fresh-stands}
use Rattle.report.specs.Run.{step_out, table_after}
use Rattle.report.specs.Printed.{lines, line_feed, fresh_table, day, printed, printed_as}
use Rattle.printed.specs.Paper.{outcome, paper_after, paper_lines, paper_as, paper, PrintedIsPaper}

step_same : (p : PlainDay) (t : List ℕ) (S : Stands p t) (s : Step) → OnTable p t S (step_out t s) (outcome p s)
step_same p t S (Update c n k bib v) = update_same p t S c n k bib v
step_same p t S (Query c n bib) = query-same p t S c n bib
step_same p t S (Yield c) = yield-same p t S c board_bytes
step_same p t S (Fork n) = fork-same p t S n
step_same p t S (Join n m) = join-same p t S n m board_bytes
step_same p t S Unknown = refused-same p t S 13

stands : (f : List ℕ) (i : ℕ) → Stands (paper_after f i) (table_after fresh_table f i)
unfolding paper_after table_after fresh_table
stands f zero = fresh-stands (replicate table_bytes 0) (length-replicate {A = ℕ} table_bytes 0) false
stands f (suc i) = (step_same (paper_after f i) (table_after fresh_table f i) (stands f i) (step_at f i)).stands

lines_same : (f : List ℕ) (n : ℕ) → lines fresh_table f n ≡ paper_lines f n
unfolding lines paper_lines
lines_same f zero = refl
lines_same f (suc i) =
    let h = (step_same (paper_after f i) (table_after fresh_table f i) (stands f i) (step_at f i)).reply in
    rw (ap (λ r. r.code) h, ap (λ r. r.state) h, ap (λ r. r.value) h, lines_same f i)

same_text : (c : Option ℕ) (f : List ℕ) → printed_as c f ≡ paper_as c f
unfolding day
same_text None f = refl
same_text (Some n) f = ap (λ l. ascii "steps " ++ ended n line_feed ++ l) (lines_same f n)

pub printed_is_paper : PrintedIsPaper
unfolding printed paper
printed_is_paper f = same_text (file_check f) f
