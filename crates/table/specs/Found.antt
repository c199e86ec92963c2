-- No claim rests on this file: it serves the code. A check's answer taken apart: the checks go on with what it found, or end; and parts of rows.
use Rattle.std.specs.Prelude.{ℕ, ◌*◌, Bool, not, List, [], ◌∷◌, ltb, length, Option, Some, None, Result, Ok, Err}
use Rattle.desk.specs.Checks.{◌if◌, settle}
use Rattle.cells.specs.Cells.{Cells}
use Rattle.cells.specs.Order.{order}
use Rattle.cells.specs.Checks.{given_out, joined}
use Rattle.entries.specs.Entries.{entry_at}
use Rattle.sheets.specs.Sheet.{sheet}
use Rattle.table.specs.Halves.{high, cells_of}
use Rattle.table.specs.Answers.{refused, taken}
use Rattle.table.specs.Out.{Level, Out}
use Rattle.table.specs.Calls.{no_fill, told}

-- a check that finds something
unfoldable pub on_some : {A B : Type 0} → Option A → B → (A → B) → B
on_some None end rest = end
on_some (Some x) end rest = rest x

-- several checks: what they find, or why the first that applies refuses
unfoldable pub on_ok : {A B E : Type 0} → Result A E → (E → B) → (A → B) → B
on_ok (Err e) end rest = end e
on_ok (Ok x) end rest = rest x

-- one check that applies ends the call
abbrev pub check : Bool → ℕ → List ℕ → Out → Out
check applies code lent rest = settle (code if applies ∷ []) (refused lent) rest

-- 12 of a list, and its end
unfoldable pub shown_out : List ℕ → ℕ → List ℕ → Out
shown_out t n s =
    check (ltb (length s) (12 * length (order (cells_of t) n))) 12 s (
    taken (sheet (entry_at (high t)) (order (cells_of t) n) s) (length (order (cells_of t) n)))

-- 3, 4 of a fill, and its end
unfoldable pub fill_in : Cells → ℕ → Level
fill_in k n = settle (3 if not (given_out k n) ∷ 4 if joined k n ∷ []) no_fill (told k n)
