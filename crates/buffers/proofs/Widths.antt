-- A number read from its last byte to its first, its bound, and a number read back from its bytes.
use Prim.Native.Nat.{ℕ, suc, ◌+◌, ◌*◌, ◌-◌, ◌/◌, ◌%◌, ◌^◌, ◌<◌, ◌≤◌}
use mathlib.Core.Path.{◌≡◌, ap, subst}
use mathlib.Core.List.{List, [], ◌∷◌}
use native.Mathlib.Nat.{pow-le-pow_right, pow-succ'}
use native.Mathlib.Omega.{arith}
use lib.ListN.{length, drop, get_or, drop_of_length-le}
use lib.Seq.{drop-cons}
use Rattle.buffers.specs.Numbers.{number, word}

-- no byte is left past the last
pub number_end : (p : List ℕ) → number (drop (length p) p) ≡ 0
unfolding number
number_end p = rw (drop_of_length-le p {i = length p} (omega arith))

-- one byte more, the one before place i
pub number_more : (p : List ℕ) (i : ℕ) → 0 < i → i ≤ length p → number (drop (i - 1) p) ≡ get_or p (i - 1) 0 + 256 * number (drop i p)
unfolding number
number_more p i h l =
    let e : suc (i - 1) ≡ i = omega arith in
    rw (drop-cons p (i - 1) 0 (omega arith)) (ap (λ k. get_or p (i - 1) 0 + 256 * number (drop k p)) e)

-- with one byte more it is below one power more
pub bound_more : (n i b v : ℕ) → 0 < i → i ≤ n → b < 256 → v < 256 ^ (n - i) → b + 256 * v < 256 ^ (n - (i - 1))
bound_more n i b v h l g f =
    let e : suc (n - i) ≡ n - (i - 1) = omega arith in
    subst (λ k. b + 256 * v < 256 ^ k) e (rw pow-succ' (omega arith))

-- up to four bytes have 32 bits
pub bound_four : (n : ℕ) → n ≤ 4 → 256 ^ n ≤ 4294967296
bound_four n h = pow-le-pow_right (omega arith) h

-- a number of two bytes and one of four read back, of any size: what does not fit stays in the last byte
pub number-two : (b : ℕ) → number (b % 256 ∷ b / 256 ∷ []) ≡ b
unfolding number
number-two b = omega arith

pub number_word : (v : ℕ) → number (word v) ≡ v
unfolding number
number_word v = omega arith
