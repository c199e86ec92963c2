-- The end of a list: too short a sheet, or the lines of what was listed.
use Prim.Native.Nat.{ℕ, ◌*◌}
use mathlib.Core.Path.{◌≡◌, ◌∙◌, ap}
use mathlib.Core.List.{List}
use lib.Dec.{ltb}
use lib.ListN.{length, take}
use Rattle.lists.proofs.Told.{Told, told}
use Rattle.cells.specs.Order.{order}
use Rattle.entries.specs.Sizes as Upper
use Rattle.entries.specs.Entries.{entry_at}
use Rattle.sheets.specs.Sheet.{sheet}
use Rattle.table.specs.Halves.{high, cells_of}
use Rattle.table.specs.Out.{table_bytes, Out}
use Rattle.table.specs.Answers.{taken}
use Rattle.table.specs.Found.{check, shown_out}
use Rattle.listing.specs.Checks.{sheet_check}
use Rattle.listing.specs.declared.list.SheetCheck.TheVariants.{Fits, Short}
use Rattle.table.proofs.Halves.{high_whole}

-- what the check of the sheet found
sheet-told : (m n : ℕ) → Told (ltb m (12 * n)) Short Fits (sheet_check m n)
unfolding sheet_check
sheet-told m n = told _ _ _ (λ h. cc)

-- a sheet with room
pub put_done : (t s l q : List ℕ) → length t ≡ table_bytes → sheet_check (length s) (length l) ≡ Fits → q ≡ sheet (entry_at (take Upper.entry_bytes (high t))) l s
    → taken q (length l) ≡ check (ltb (length s) (12 * length l)) 12 s (taken (sheet (entry_at (high t)) l s) (length l))
put_done t s l q h e eq = rw ((sheet-told (length s) (length l)).fails e) (ap (λ (x : List ℕ). taken x (length l)) (eq ∙ ap (λ (u : List ℕ). sheet (entry_at u) l s) (high_whole t h)))

-- the lines are of what is visible
pub shown : (t s l : List ℕ) (r : ℕ) (o : Out) → l ≡ order (cells_of t) r
    → o ≡ check (ltb (length s) (12 * length l)) 12 s (taken (sheet (entry_at (high t)) l s) (length l)) → o ≡ shown_out t r s
unfolding shown_out
shown t s l r o el e = e ∙ rw el
