-- A row of flags as one number: the bits of a number by its bytes, the lowest first, and of a power of two.
use Prim.Native.Nat.{ℕ, zero, suc, ◌+◌, ◌*◌, ◌-◌, ◌/◌, ◌%◌, ◌^◌, ◌<◌, ◌≤◌}
use mathlib.Core.Path.{◌≡◌, refl, sym, ◌∙◌, ap, subst}
use mathlib.Core.List.{List}
use native.Mathlib.Nat.{div-eq_of_lt}
use native.Mathlib.Omega.{arith}
use lib.Bits.{shifted_even}
use lib.Dec.{eqb, ltb}
use lib.Pow.{field, high, low, mod-mod-pow, pow-add, pow-lt, shl_exact, shl-shr, shr-shr}
use borrow.Author.Tests.{eqb-true, eqb-false, ltb-true, ltb-false}
use Rattle.lists.proofs.Cases.{cases}
use Rattle.std.specs.Int.{from_le_bytes, to_le_bytes, w64}
use Rattle.cells.specs.Tables.{tab}
use Rattle.cells.specs.Words.{Bytes, byte}
use Rattle.cells.specs.Flags.{bit, byte_of, flag_at, row_bytes}
use Rattle.flags.proofs.Bytes.{at_place, byte_is}

-- the bits of the lowest byte
low_bit : (n j : ℕ) → j < 8 → bit (n % 256) j ≡ bit n j
low_bit n j h =
    let e : 7 - j + (1 + j) ≡ 8 = omega arith in
    ap (λ x. eqb x 1)
    (sym (field (n % 256) 1 j) ∙ ap (λ x. x / 2 ^ j) (ap (λ x. n % 2 ^ x % 2 ^ (1 + j)) (sym e) ∙ mod-mod-pow n (7 - j) (1 + j)) ∙ field n 1 j)

-- the bits above them
high_bit : (n b y : ℕ) → b < 256 → bit (n * 256 + b) (8 + y) ≡ bit n y
high_bit n b y h = ap (λ x. eqb (x % 2) 1) (sym (shr-shr (n * 256 + b) 8 y) ∙ ap (λ x. x / 2 ^ y) (high n 8 h))

-- the flags of a row from byte k on are the bits of w
abbrev pub Told : List ℕ → ℕ → ℕ → Type 0
Told row k w = (y : ℕ) → y < 64 - 8 * k → bit w y ≡ flag_at row (8 * k + y)

-- one byte more, the one before byte k
pub told_more : (row : List ℕ) (k w b : ℕ) → 0 < k → k ≤ 8 → b < 256 → b ≡ byte row (k - 1) → Told row k w → Told row (k - 1) (w * 256 + b)
told_more row k w b z l h e t y q =
    cases (ltb y 8)
    (λ c. let m = ltb-true y 8 c in sym (low_bit (w * 256 + b) y m) ∙ ap (λ x. bit x y) (low w 8 h ∙ e) ∙ sym (at_place (byte row) (k - 1) y m))
    (λ c.
    let m = ltb-false y 8 c in
    let up : y ≡ 8 + (y - 8) = omega arith in
    let to : 8 * k + (y - 8) ≡ 8 * (k - 1) + y = omega arith in
    ap (bit (w * 256 + b)) up ∙ high_bit w b (y - 8) h ∙ t (y - 8) (omega arith) ∙ ap (flag_at row) to)

-- the last n bytes of a row as a number
last_bytes : List ℕ → ℕ → ℕ
last_bytes row zero = 0
last_bytes row (suc n) = last_bytes row n * 256 + byte row (8 - suc n)

told_last : (row : List ℕ) (n : ℕ) → n ≤ 8 → Bytes row → Told row (8 - n) (last_bytes row n)
unfolding last_bytes
told_last row zero h f = λ y l. absurd (omega arith)
told_last row (suc n) h f =
    let e : 8 - n - 1 ≡ 8 - suc n = omega arith in
    subst (λ k. Told row k (last_bytes row n * 256 + byte row (8 - suc n))) e
    (told_more row (8 - n) (last_bytes row n) (byte row (8 - suc n)) (omega arith) (omega arith) (f (8 - suc n)) (ap (byte row) (sym e)) (told_last row n (omega arith) f))

-- all eight
pub told_all : (row : List ℕ) → Bytes row → (y : ℕ) → y < 64 → bit (from_le_bytes w64 row) y ≡ flag_at row y
unfolding last_bytes
told_all row f y h =
    let e : from_le_bytes w64 row ≡ last_bytes row 8 = omega arith in
    ap (λ n. bit n y) e ∙ told_last row 8 (omega arith) f y (omega arith) ∙ ap (flag_at row) (omega arith)

-- byte k of a number
pub byte_at : (n k : ℕ) → n / 2 ^ (8 * k) % 256 ≡ byte_of (λ j. bit n (8 * k + j))
byte_at n k =
    let m = n / 2 ^ (8 * k) in
    byte_is (m % 256) (λ j. bit n (8 * k + j)) (omega arith) (λ j h. low_bit m j h ∙ ap (λ x. eqb (x % 2) 1) (shr-shr n (8 * k) j))

-- and all eight of a word
pub word_row : (n : ℕ) → to_le_bytes w64 n ≡ row_bytes 8 (bit n)
unfolding row_bytes tab
word_row n =
    let z : n / 1 ≡ n = omega arith in
    rw (← byte_at n 0, ← byte_at n 1, ← byte_at n 2, ← byte_at n 3, ← byte_at n 4, ← byte_at n 5, ← byte_at n 6, ← byte_at n 7, z) refl

-- one bit alone
bit_below : (r y : ℕ) → y < r → 1 * 2 ^ r / 2 ^ y % 2 ≡ 0
bit_below r y h =
    let e : suc (r - y - 1) + y ≡ r = omega arith in
    let p : 1 * 2 ^ r ≡ 2 ^ suc (r - y - 1) * 2 ^ y = ap (λ x. 1 * x) (ap (λ x. 2 ^ x) (sym e) ∙ pow-add 2 (suc (r - y - 1)) y) ∙ omega arith in
    ap (λ x. x / 2 ^ y % 2) p ∙ ap (λ x. x % 2) (shl-shr (2 ^ suc (r - y - 1)) y) ∙ sym (ap (λ x. x % 2) (omega arith)) ∙ shifted_even 1 (r - y - 1)

bit-above : (r y : ℕ) → r < y → 1 * 2 ^ r / 2 ^ y ≡ 0
bit-above r y h = div-eq_of_lt (let l = pow-lt h in omega arith)

pub bit-only : (r y : ℕ) → r < 64 → bit (1 * 2 ^ r % 2 ^ 64) y ≡ eqb y r
bit-only r y h =
    ap (λ x. bit x y) (shl_exact 1 r 64 (omega arith) (omega arith))
    ∙ cases (eqb y r)
    (λ q. let e = eqb-true y r q in rw (q, e) (ap (λ x. eqb (x % 2) 1) (shl-shr 1 r)))
    (λ q.
    let d = eqb-false y r q in
    cases (ltb y r)
    (λ c. rw q (ap (λ x. eqb x 1) (bit_below r y (ltb-true y r c))))
    (λ c. let m = ltb-false y r c in rw q (ap (λ x. eqb (x % 2) 1) (bit-above r y (omega (arith, d))))))
