-- A byte or a word of a part: the part is lent and written at an index x that equals r. A flag read in the whole.
use Prim.Native.Nat.{ℕ, ◌+◌, ◌*◌, ◌/◌, ◌%◌, ◌<◌}
use mathlib.Core.Path.{◌≡◌, ap, ◌∙◌}
use mathlib.Core.List.{List}
use native.Mathlib.Omega.{arith}
use lib.ListN.{length, set}
use borrow.Author.Tests.{lt-ltb}
use borrow.Rule.Slice.PartMut.{mid_of, put_mid}
use Rattle.cells.specs.Sizes.{lower_bytes}
use Rattle.cells.specs.Parts.{parts, size, offset, split, wrote}
use Rattle.cells.specs.Words.{byte, put_word}
use Rattle.cells.specs.Flags.{bit, flag_in}
use Rattle.cells.proofs.Parts.{part-lent, part-byte}

module _ (d : List ℕ) (i : ℕ) where
  -- what is lent
  abbrev lent : List ℕ
  lent = mid_of (offset i) (size i) d

  -- flag b of row a, of n rows of 64
  pub flag-read : (n : ℕ) {x y a b : ℕ} → size i ≡ 8 * n → x ≡ a → y ≡ b → a < n → b < 64 → bit (byte d (offset i + (8 * x + y / 8))) (y % 8) ≡ flag_in 8 n (split d i) a b
  flag-read n {a} {b} s e f h g = rw (e, f, lt-ltb a n h, lt-ltb b 64 g) (ap (λ z. bit z (b % 8)) (part-byte d i (8 * a + b / 8) (omega arith)))

  -- written
  pub lent_at : (f : ℕ → List ℕ → List ℕ) {q : List ℕ} {x r : ℕ} → length d ≡ lower_bytes → i < parts → x ≡ r → q ≡ f x lent → put_mid (offset i) (size i) d q ≡ wrote d i (f r (split d i))
  lent_at f {r} h l e w = part-lent d i (f r) h l (w ∙ ap (λ z. f z lent) e)

  pub byte-lent : (v : ℕ) {q : List ℕ} {x r : ℕ} → length d ≡ lower_bytes → i < parts → x ≡ r → q ≡ set lent x v → put_mid (offset i) (size i) d q ≡ wrote d i (set (split d i) r v)
  byte-lent v = lent_at (λ r t. set t r v)

  pub word-lent : (v : ℕ) {q : List ℕ} {x r : ℕ} → length d ≡ lower_bytes → i < parts → x ≡ r → q ≡ put_word lent x v → put_mid (offset i) (size i) d q ≡ wrote d i (put_word (split d i) r v)
  word-lent v = lent_at (λ r t. put_word t r v)
