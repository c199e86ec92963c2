-- The flags of inherited updates, read in the whole.
use Prim.Native.Nat.{ℕ, zero, suc, ◌+◌, ◌*◌, ◌-◌, ◌/◌, ◌%◌, ◌<◌}
use mathlib.Core.Bool.{true, false, and-false}
use mathlib.Core.Path.{◌≡◌, refl, sym, ap, ◌∙◌}
use mathlib.Core.List.{List}
use native.Mathlib.Numerals.{sub-one}
use native.Mathlib.Omega.{arith}
use lib.ListN.{get_or, replicate}
use borrow.Author.Tests.{lt-ltb}
use Rattle.cells.specs.Sizes.{revisions, updates}
use Rattle.cells.specs.Parts.{offset, size, rows_part}
use Rattle.cells.specs.Words.{byte}
use Rattle.cells.specs.Flags.{bit, row_bytes}
use Rattle.cells.specs.Cells.{flagged}
use Rattle.cells.specs.Decode.{cells}
use Rattle.cells.proofs.Flags.{row_bytes_same}
use Rattle.cells.proofs.Parts.{part-byte}
use Rattle.flags.proofs.Laws.{no_flags}

module _ (d : List ℕ) where
  -- the main revision has no row, and a row that is not in use has no flag
  pub main-unflagged : (r u : ℕ) → r ≡ 0 → false ≡ flagged (cells d) r u
  unfolding cells
  main-unflagged r u e = rw e (sym (and-false ((cells d).used 0)))

  pub unused-unflagged : (r u : ℕ) → (cells d).used r ≡ false → false ≡ flagged (cells d) r u
  unused-unflagged r u e = rw e

  pub flagged-at : (r u : ℕ) → r < revisions → (r ≡ 0 → ⊥) → u < updates → (cells d).used r ≡ true → bit (get_or d (512 * (r - 1) + u / 8) 0) (u % 8) ≡ flagged (cells d) r u
  unfolding cells offset size
  flagged-at zero u h n l e = absurd (n refl)
  flagged-at (suc r) u h n l e =
      let at = 512 * r + u / 8 in
      let in-part : at ≡ offset rows_part + at = omega arith in
      rw (e, sub-one, lt-ltb r 63 (omega arith), lt-ltb u updates l)
      (ap (λ z. bit (get_or d z 0) (u % 8)) in-part ∙ ap (λ b. bit b (u % 8)) (part-byte d rows_part at (omega arith)))

  -- a whole row
  pub row-used : (r x : ℕ) → 0 < r → r < revisions → x ≡ r → (cells d).used r ≡ true → row_bytes 512 (λ u. bit (byte d (512 * (x - 1) + u / 8)) (u % 8)) ≡ row_bytes 512 (flagged (cells d) r)
  row-used r x l h q e = row_bytes_same 512 _ (flagged (cells d) r) (λ u m. ap (λ z. bit (byte d (512 * (z - 1) + u / 8)) (u % 8)) q ∙ flagged-at r u h (λ z. omega arith) m e)

  pub row-unused : (r : ℕ) → (cells d).used r ≡ false → replicate 512 0 ≡ row_bytes 512 (flagged (cells d) r)
  row-unused r e = no_flags 512 ∙ row_bytes_same 512 _ (flagged (cells d) r) (λ u h. unused-unflagged r u e)
