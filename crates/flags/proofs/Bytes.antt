-- Bytes by their bits: the bits of an or and of an exclusive or; one bit alone.
use Prim.Native.Nat.{ℕ, zero, suc, ◌+◌, ◌*◌, ◌/◌, ◌%◌, ◌^◌, ◌<◌}
use mathlib.Core.Bool.{Bool, true, not, cond, ◌||◌, ◌&&◌, or-false}
use mathlib.Core.Path.{◌≡◌, refl, sym, ◌∙◌, ap, subst}
use native.Mathlib.Omega.{arith}
use lib.Bits.{bit_or, bit_xor, or_lt, or_mod, or_shr, xor_lt, xor_mod, xor_shr}
use lib.Dec.{eqb}
use lib.Pow.{pow-lt}
use borrow.Author.Tests.{eqb-true}
use borrow.Rule.Slice.PartMut.{mid_of}
use mathlib.Core.List.{List}
use lib.ListN.{length, drop}
use lib.Seq.{get_or-drop}
use Rattle.lists.specs.Lists.{changed}
use Rattle.lists.proofs.Cases.{cases, or_right}
use Rattle.cells.specs.Tables.{every}
use Rattle.cells.specs.Words.{Bytes, byte}
use Rattle.cells.specs.Flags.{bit, byte_of, flag_at, row_bytes}
use Rattle.cells.proofs.Tables.{every_at, tab_of, tab_same}
use Rattle.cells.proofs.Flags.{bit_byte, byte_same, row_bytes_same}
use Rattle.cells.proofs.Parts.{mid_byte}
use Rattle.cells.proofs.Bytes.{bits_byte, take_bytes}

pub byte_is : (b : ℕ) (f : ℕ → Bool) → b < 256 → ((j : ℕ) → j < 8 → bit b j ≡ f j) → b ≡ byte_of f
byte_is b f h e = sym (bits_byte b h) ∙ byte_same (bit b) f e

-- binary digits
or_digit : (x y : ℕ) → x < 2 → y < 2 → eqb (bit_or x y) 1 ≡ (eqb x 1 || eqb y 1)
or_digit zero zero h g = refl
or_digit zero (suc zero) h g = refl
or_digit zero (suc (suc y)) h g = absurd (omega arith)
or_digit (suc zero) zero h g = refl
or_digit (suc zero) (suc zero) h g = refl
or_digit (suc zero) (suc (suc y)) h g = absurd (omega arith)
or_digit (suc (suc x)) y h g = absurd (omega arith)

xor_digit : (x y : ℕ) → x < 2 → y < 2 → eqb (bit_xor x y) 1 ≡ cond (eqb y 1) (not (eqb x 1)) (eqb x 1)
xor_digit zero zero h g = refl
xor_digit zero (suc zero) h g = refl
xor_digit zero (suc (suc y)) h g = absurd (omega arith)
xor_digit (suc zero) zero h g = refl
xor_digit (suc zero) (suc zero) h g = refl
xor_digit (suc zero) (suc (suc y)) h g = absurd (omega arith)
xor_digit (suc (suc x)) y h g = absurd (omega arith)

module _ (a b j : ℕ) where
  bit-or : bit (bit_or a b) j ≡ (bit a j || bit b j)
  bit-or = ap (λ x. eqb (x % 2) 1) (or_shr a b j) ∙ ap (λ x. eqb x 1) (or_mod (a / 2 ^ j) (b / 2 ^ j) 1) ∙ or_digit (a / 2 ^ j % 2) (b / 2 ^ j % 2) (omega arith) (omega arith)

  bit-xor : bit (bit_xor a b) j ≡ cond (bit b j) (not (bit a j)) (bit a j)
  bit-xor = ap (λ x. eqb (x % 2) 1) (xor_shr a b j) ∙ ap (λ x. eqb x 1) (xor_mod (a / 2 ^ j) (b / 2 ^ j) 1) ∙ xor_digit (a / 2 ^ j % 2) (b / 2 ^ j % 2) (omega arith) (omega arith)

-- one bit alone
all_ones : every (λ k. eqb (2 ^ k) (byte_of (λ j. eqb j k))) 8 ≡ true
unfolding every
all_ones = refl

bit-one : (k j : ℕ) → k < 8 → j < 8 → bit (2 ^ k) j ≡ eqb j k
bit-one k j h g = ap (λ b. bit b j) (eqb-true (2 ^ k) _ (every_at (λ z. eqb (2 ^ z) (byte_of (λ i. eqb i z))) 8 k all_ones h)) ∙ bit_byte (λ i. eqb i k) j g

-- what the operations on bytes make
module _ (a b : ℕ) (al : a < 256) (bl : b < 256) where
  pub either-byte : bit_or a b ≡ byte_of (λ j. bit a j || bit b j)
  either-byte = byte_is (bit_or a b) _ (or_lt 8 a b al bl) (λ j h. bit-or a b j)

  without-bit : (x y : Bool) → cond y (not (x || y)) (x || y) ≡ (x && not y)
  without-bit x y = cases x (λ e. cases y (λ g. rw (e, g)) (λ g. rw (e, g))) (λ e. cases y (λ g. rw (e, g)) (λ g. rw (e, g)))

  pub without-byte : bit_xor (bit_or a b) b ≡ byte_of (λ j. bit a j && not (bit b j))
  without-byte =
      byte_is (bit_xor (bit_or a b) b) _ (xor_lt 8 (bit_or a b) b (or_lt 8 a b al bl) bl)
      (λ j h. bit-xor (bit_or a b) b j ∙ ap (λ x. cond (bit b j) (not x) x) (bit-or a b j) ∙ without-bit (bit a j) (bit b j))

pub set-byte : (b k : ℕ) → b < 256 → k < 8 → bit_or b (1 * 2 ^ k % 256) ≡ byte_of (changed (bit b) k true)
set-byte b k h g =
    let l : 2 ^ k < 256 = pow-lt g in
    let w : 1 * 2 ^ k % 256 ≡ 2 ^ k = omega arith in
    ap (bit_or b) w
    ∙ byte_is (bit_or b (2 ^ k)) (changed (bit b) k true) (or_lt 8 b (2 ^ k) h l)
    (λ j m. bit-or b (2 ^ k) j ∙ ap (λ x. bit b j || x) (bit-one k j g m) ∙ cases (eqb j k) (λ e. rw e (or_right (bit b j) true refl)) (λ e. rw e (or-false (bit b j))))

-- bytes g in a row: their flags, each byte's where it lies
pub at_place : (g : ℕ → ℕ) (k j : ℕ) → j < 8 → bit (g ((8 * k + j) / 8)) ((8 * k + j) % 8) ≡ bit (g k) j
at_place g k j h =
    let e : (8 * k + j) / 8 ≡ k = omega arith in
    let q : (8 * k + j) % 8 ≡ j = omega arith in
    rw (e, q)

pub same_byte : (g : ℕ → ℕ) (k : ℕ) → byte_of (bit (g k)) ≡ byte_of (λ j. bit (g ((8 * k + j) / 8)) ((8 * k + j) % 8))
same_byte g k = byte_same (bit (g k)) _ (λ j l. sym (at_place g k j l))

pub same_bytes : (op : Bool → Bool → Bool) (g h : ℕ → ℕ) (k : ℕ) → byte_of (λ j. op (bit (g k) j) (bit (h k) j)) ≡ byte_of (λ j. op (bit (g ((8 * k + j) / 8)) ((8 * k + j) % 8)) (bit (h ((8 * k + j) / 8)) ((8 * k + j) % 8)))
same_bytes op g h k =
    byte_same (λ j. op (bit (g k) j) (bit (h k) j)) (λ j. op (bit (g ((8 * k + j) / 8)) ((8 * k + j) % 8)) (bit (h ((8 * k + j) / 8)) ((8 * k + j) % 8)))
    (λ j l. rw (at_place g k j l, at_place h k j l))

-- bytes are those of their own flags
pub bytes_row : (l : List ℕ) (w : ℕ) → length l ≡ w → Bytes l → l ≡ row_bytes w (flag_at l)
unfolding row_bytes
bytes_row l w e h = tab_of l 0 w e ∙ tab_same _ (λ i. byte_of (λ j. flag_at l (8 * i + j))) w (λ i g. sym (bits_byte (byte l i) (h i)) ∙ same_byte (byte l) i)

-- and bytes copied from `at` on of t have the flags that lie there
pub row_copied : (t l : List ℕ) (at w : ℕ) → l ≡ mid_of at w t → length l ≡ w → Bytes t → l ≡ row_bytes w (λ y. bit (byte t (at + y / 8)) (y % 8))
row_copied t l at w e n h =
    let lent : Bytes (mid_of at w t) = take_bytes w (drop at t) (λ i. subst (λ b. b < 256) (sym (get_or-drop at t i 0)) (h (at + i))) in
    bytes_row l w n (subst Bytes (sym e) lent)
    ∙ row_bytes_same w (flag_at l) _ (λ y g. ap (λ b. bit b (y % 8)) (ap (λ z. byte z (y / 8)) e ∙ sym (mid_byte t at w (y / 8) (omega arith))))

-- a row whose every byte has the flags of f is the row of f
pub row_made : (l : List ℕ) (f : ℕ → Bool) → length l ≡ 8 → ((k : ℕ) → k < 8 → byte l k ≡ byte_of (λ j. f (8 * k + j))) → l ≡ row_bytes 8 f
unfolding row_bytes
row_made l f e h = tab_of l 0 8 e ∙ tab_same _ (λ k. byte_of (λ j. f (8 * k + j))) 8 h
