-- A revision that a number means, on the table and on the day: what it shows, and the standing of a bib on it.
use Prim.Native.Nat.{ℕ, suc, ◌*◌, ◌<◌}
use mathlib.Core.Bool.{false, not}
use mathlib.Core.Path.{◌≡◌, refl, sym, ◌∙◌, ap}
use mathlib.Core.List.{List, [], ◌∷◌, ◌++◌}
use lib.ListN.{length, drop}
use Rattle.lists.specs.Lists.{◌∈◌}
use Rattle.updates.specs.Applied.{applied, fresh_standing}
use Rattle.diagram.specs.Day.{Day, meant, is_given}
use Rattle.diagram.specs.Views.{view}
use Rattle.diagram.specs.Steps.{Event, Step, run}
use Rattle.diagram.specs.Accepted.{Accepted}
use Rattle.diagram.proofs.Order.Runs.{fine_run}
use Rattle.cells.specs.Order.{order}
use Rattle.entries.specs.declared.entry.Entry.{Entry}
use Rattle.entries.specs.Entries.{entry_at}
use Rattle.entries.specs.Folded as Folded
use Rattle.sheets.specs.Lines.{line}
use Rattle.sheets.specs.Sheet.{lines, sheet}
use Rattle.plain.specs.Record.{PlainDay, lines_of, path_result}
use Rattle.plain.specs.Answers.{stepped}
use Rattle.plain.proofs.Ends.{meaning}
use Rattle.plain.proofs.Previews.{reads_terminal}
use Rattle.plain.proofs.LineUp.{view-low, of_bib_same, lines_of_same}
use Rattle.table.specs.Halves.{cells_of, high}
use Rattle.table.specs.Calls as Table
use Rattle.consistency.specs.Table.{in_bytes, sheet_with}
use Rattle.consistency.proofs.Table.Stands.{Stands, numbers-are}

-- a bib's standing by entries that are stored as they were entered
pub standing_same : (f : ℕ → Entry) (g : ℕ → Entry) (bib : ℕ) (ns ms : List ℕ) → ns ≡ ms → ((k : ℕ) → k ∈ ms → f k ≡ g k) → Folded.standing_of f bib ns ≡ Folded.standing_of g bib ms
standing_same f g bib ns ms e h = ap (λ us. applied us fresh_standing) (ap (Folded.of_bib f bib) e ∙ of_bib_same (f) g bib ms h)

-- the lines in bytes, of the entries as they are stored and as they were entered
in_bytes_is : (f : ℕ → Entry) (ns : List ℕ) → in_bytes (lines_of (f) ns) ≡ lines f ns
unfolding lines
in_bytes_is f [] = refl
in_bytes_is f (n ∷ ns) = ap (λ z. line (f n) n ++ z) (in_bytes_is f ns)

lines_of-length : (f : ℕ → Entry) (ns : List ℕ) → length (lines_of f ns) ≡ length ns
lines_of-length f [] = refl
lines_of-length f (n ∷ ns) = ap suc (lines_of-length f ns)

pub shown_of : (ss : List Step) → Accepted ss → (y : Day) → y ≡ run ss → (r k : ℕ) → k ∈ view y.diagram (y.terminal r) → k < y.updates
shown_of ss A y e r k = rw e (λ i. view-low ss A _ k ((fine_run ss A).sound.real.linked.bound r) i)

module _ (p : PlainDay) (t : List ℕ) (S : Stands p t) (n : ℕ) (g : not (is_given p.day n) ≡ false) (o : p.day.joined (meant p.day n) ≡ false) where
  abbrev r : ℕ
  r = meant p.day n

  pub same_order : order (cells_of t) n ≡ view p.day.diagram (p.day.terminal r)
  same_order = (((numbers-are p t S).number n r (meaning p n g)).out o).same_order

  -- every number shown is that of an update taken
  pub shown-low : (k : ℕ) → k ∈ view p.day.diagram (p.day.terminal r) → k < p.day.updates
  shown-low = shown_of S.steps S.ok p.day S.day_is r

  entries_same : (k : ℕ) → k ∈ view p.day.diagram (p.day.terminal r) → entry_at (high t) k ≡ p.entries k
  entries_same k i = S.entries_are k (shown-low k i)

  pub same-reading : (bib : ℕ) → Table.standing_at t n bib ≡ path_result p (p.day.terminal r) bib
  unfolding Table.standing_at
  same-reading bib = standing_same (entry_at (high t)) p.entries bib _ _ same_order entries_same

  pub same-standing : (c bib : ℕ) → Table.standing_at t n bib ≡ path_result (stepped p (Event c r false) 0) (length p.day.diagram) bib
  same-standing c bib = same-reading bib ∙ sym (reads_terminal p c r bib)

  lines_same : in_bytes (lines_of p.entries (view p.day.diagram (p.day.terminal r))) ≡ lines (entry_at (high t)) (order (cells_of t) n)
  lines_same =
      ap in_bytes (sym (lines_of_same _ p.entries (view p.day.diagram (p.day.terminal r)) entries_same))
      ∙ in_bytes_is (entry_at (high t)) (view p.day.diagram (p.day.terminal r))
      ∙ ap (lines (entry_at (high t))) (sym same_order)

  pub same-sheet : (s : List ℕ) → sheet (entry_at (high t)) (order (cells_of t) n) s ≡ sheet_with (lines_of p.entries (view p.day.diagram (p.day.terminal r))) s
  unfolding sheet
  same-sheet s =
      let few : length (order (cells_of t) n) ≡ length (lines_of p.entries (view p.day.diagram (p.day.terminal r))) =
      ap length same_order ∙ sym (lines_of-length p.entries (view p.day.diagram (p.day.terminal r))) in
      ap (λ z. z ++ drop (12 * length (order (cells_of t) n)) s) (sym lines_same)
      ∙ ap (λ k. in_bytes (lines_of p.entries (view p.day.diagram (p.day.terminal r))) ++ drop (12 * k) s) few
