-- The row of a forked revision: one own update after the other is flagged.
use Prim.Native.Nat.{ℕ, zero, suc, ◌+◌, ◌*◌, ◌/◌, ◌%◌, ◌<◌, ◌≤◌}
use mathlib.Core.Bool.{Bool, true, ◌&&◌, ◌||◌, or_assoc, or-false}
use mathlib.Core.Path.{◌≡◌, refl, sym, ap, ◌∙◌}
use mathlib.Core.List.{List, [], ◌∷◌}
use native.Mathlib.Numerals.{add-one}
use native.Mathlib.Omega.{arith}
use lib.Dec.{eqb}
use lib.ListN.{length, set, get_or, take}
use lib.Seq.{take-suc}
use borrow.Author.Tests.{ne_eqb, lt-ltb}
use Rattle.lists.specs.Lists.{changed}
use Rattle.lists.specs.Arranged.{member}
use Rattle.lists.proofs.Cases.{cases, or_right}
use Rattle.lists.proofs.Keep.{member-++}
use Rattle.cells.specs.Sizes.{updates}
use Rattle.cells.specs.Words.{byte}
use Rattle.cells.specs.Flags.{bit, byte_of, flag_at, row_bytes}
use Rattle.cells.specs.Cells.{Cells, flagged, own}
use Rattle.cells.specs.CellSteps.{fork_row}
use Rattle.cells.specs.Steps.{put_row_of}
use Rattle.cells.proofs.Flags.{flag_row_bytes, put_row_same, row_bytes_same}
use Rattle.flags.proofs.Laws.{set_flag}

-- a row of bytes by its own flags
pub row_flags : (w : ℕ) (f : ℕ → Bool) (z : List ℕ) → z ≡ row_bytes w f → (u : ℕ) → u < 8 * w → flag_at z u ≡ f u
row_flags w f z e u h = ap (λ t. flag_at t u) e ∙ flag_row_bytes w f u h

-- w bytes of flags
module _ (f : ℕ → Bool) (l : List ℕ) (w : ℕ) where
  -- f, or among the first i of l
  abbrev pub with_first : ℕ → ℕ → Bool
  with_first i u = f u || member u (take i l)

  none : (u : ℕ) → f u ≡ with_first 0 u
  none u = sym (or-false (f u))

  next : (i u : ℕ) → i < length l → with_first (i + 1) u ≡ ((f u || member u (take i l)) || eqb u (get_or l i 0))
  next i u h =
      ap (λ z. f u || member u z) (ap (λ j. take j l) (add-one i) ∙ take-suc l i 0 h)
      ∙ ap (λ b. f u || b) (member-++ u (take i l) (get_or l i 0 ∷ []) ∙ ap (λ b. member u (take i l) || b) (or-false (eqb u (get_or l i 0))))
      ∙ sym (or_assoc (f u) (member u (take i l)) (eqb u (get_or l i 0)))

  pub row_more : (i : ℕ) (z : List ℕ) (x v : ℕ) → i < length l → x ≡ get_or l i 0 → x < 8 * w → z ≡ row_bytes w (with_first i) → v ≡ byte_of (changed (bit (byte z (x / 8))) (x % 8) true) → set z (x / 8) v ≡ row_bytes w (with_first (i + 1))
  row_more i z x v h q g e b =
      ap (λ y. set y (x / 8) v) e
      ∙ set_flag w (with_first i) x v g (b ∙ ap (λ y. byte_of (changed (bit (byte y (x / 8))) (x % 8) true)) e)
      ∙ row_bytes_same w (changed (with_first i) x true) (with_first (i + 1))
      (λ u m. cases (eqb u x)
      (λ y. rw y (sym (next i u h ∙ or_right (with_first i u) (eqb u (get_or l i 0)) (rw q at y))))
      (λ y. rw y (sym (next i u h ∙ ap (λ b. with_first i u || b) (rw q at y) ∙ or-false (with_first i u)))))

  -- what is not below 8 * w has no flag
  pub row-skip : (i : ℕ) (z : List ℕ) → i < length l → 8 * w ≤ get_or l i 0 → z ≡ row_bytes w (with_first i) → z ≡ row_bytes w (with_first (i + 1))
  row-skip i z h g e =
      e ∙ row_bytes_same w (with_first i) (with_first (i + 1)) (λ u m. sym (next i u h ∙ ap (λ b. with_first i u || b) (ne_eqb u (get_or l i 0) (omega arith)) ∙ or-false (with_first i u)))

-- the row before the loop, and after it
pub row_start : (w : ℕ) (f : ℕ → Bool) (l z : List ℕ) → z ≡ row_bytes w f → z ≡ row_bytes w (with_first (flag_at z) l w 0)
row_start w f l z e = e ∙ row_bytes_same w f (with_first (flag_at z) l w 0) (λ u h. sym (row_flags w f z e u h) ∙ none (flag_at z) l w u)

pub row_done : (k : Cells) (p n : ℕ) (l z₀ z : List ℕ) → take n l ≡ own k p → z₀ ≡ row_bytes 512 (flagged k p) → z ≡ row_bytes 512 (with_first (flag_at z₀) l 512 n) → z ≡ row_bytes 512 (fork_row k p)
row_done k p n l z₀ z e g q =
    q ∙ row_bytes_same 512 _ (fork_row k p)
    (λ u h. ap (λ b. b || member u (take n l)) (row_flags 512 (flagged k p) z₀ g u h) ∙ ap (λ w. flagged k p u || member u w) e ∙ sym (ap (λ b. b && (flagged k p u || member u (own k p))) (lt-ltb u updates h)))

-- only the flags below 4,096 are stored
pub put_row_of_same : (t : List ℕ) (c : ℕ) (f g : ℕ → Bool) → ((u : ℕ) → u < updates → f u ≡ g u) → put_row_of t c f ≡ put_row_of t c g
put_row_of_same t zero f g h = refl
put_row_of_same t (suc c) f g h = put_row_same 512 t c f g h
