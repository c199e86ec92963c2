-- A number's digits: how many there are, and that the fewest are those of `decimal`.
use Prim.Native.Nat.{ℕ, zero, suc, ◌+◌, ◌*◌, ◌-◌, ◌/◌, ◌%◌, ◌^◌, ◌≤◌, ◌<◌}
use mathlib.Core.Path.{◌≡◌, refl, ◌∙◌, ap, subst}
use mathlib.Core.List.{[], ◌∷◌}
use native.Mathlib.Nat.{pow-succ', pow-le-pow_right}
use native.Mathlib.Numerals.{add-one}
use native.Mathlib.Omega.{arith}
use lib.Dec.{ltb}
use lib.ListN.{length, length-append}
use borrow.Author.Tests.{ltb-true, ltb-false}
use Rattle.io.specs.Digits.{last_digits, hex_digit_ascii, IsDigitCount}
use Rattle.lists.proofs.Cases.{cases}
use Rattle.text.specs.Decimal.{places, decimal, ended}

-- n has no more digits than hold it
pub no_more : (n k p : ℕ) → 1 ≤ k → n < 10 ^ k → IsDigitCount 10 1 n p → p ≤ k
no_more n k p l h f =
    cases (ltb k p)
    (λ e.
    let g = ltb-true k p e in
    let m : 10 ^ k ≤ 10 ^ (p - 1) = pow-le-pow_right (omega arith) (omega arith) in
    absurd (omega (arith, f.2 (omega arith))))
    (λ e. ltb-false k p e)

-- a number of 10 or more has one digit more than its tenth
one_more : (n p : ℕ) → 10 ≤ n → IsDigitCount 10 1 (n / 10) p → IsDigitCount 10 1 n (suc p)
one_more n p h f =
    let low : 10 ^ p ≤ n =
    cases (ltb 1 p)
    (λ e.
    let l = ltb-true 1 p e in
    let s : suc (p - 1) ≡ p = omega arith in
    subst (λ k. 10 ^ k ≤ n) s (rw pow-succ' (omega (arith, f.2 l))))
    (λ e.
    let l = ltb-false 1 p e in
    let s : 1 ≡ p = omega (arith, f.0) in
    subst (λ k. 10 ^ k ≤ n) s h) in
    let s : p ≡ suc p - 1 = omega arith in
    (omega arith, rw pow-succ' (omega (arith, f.1)), λ _. subst (λ k. 10 ^ k ≤ n) s low)

pub places_fewest : (more n : ℕ) → n < 10 ^ suc more → IsDigitCount 10 1 n (places more n)
unfolding places
places_fewest zero n h = (omega arith, h, λ l. absurd (omega arith))
places_fewest (suc more) n h =
    cases (ltb n 10)
    (λ e. let g = ltb-true n 10 e in rw e (omega arith, g, λ l. absurd (omega arith)))
    (λ e.
    let b : n < 10 * 10 ^ suc more = rw pow-succ' at h in
    rw e (one_more n (places more (n / 10)) (ltb-false n 10 e) (places_fewest more (n / 10) (omega arith))))

-- of 64 bits
decimal_fewest : (n : ℕ) → n < 2 ^ 64 → IsDigitCount 10 1 n (places 19 n)
decimal_fewest n h = places_fewest 19 n (omega arith)

pub fewest_decimal : (n k : ℕ) → n < 2 ^ 64 → IsDigitCount 10 1 n k → last_digits 10 k n ≡ decimal n
unfolding decimal
fewest_decimal n k h f =
    let d = decimal_fewest n h in
    let a = no_more n k (places 19 n) f.0 f.1 d in
    let b = no_more n (places 19 n) k d.0 d.1 f in
    let e : k ≡ places 19 n = omega arith in
    ap (λ m. last_digits 10 m n) e

pub digits-length : (b k n : ℕ) → length (last_digits b k n) ≡ k
digits-length b zero n = refl
digits-length b (suc k) n = length-append (last_digits b k (n / b)) (hex_digit_ascii (n % b) ∷ []) ∙ ap (λ m. m + 1) (digits-length b k (n / b)) ∙ add-one k

-- how long a number below 10 ^ k is, with the byte behind it
pub ended-length : (n k mark : ℕ) → 1 ≤ k → n < 10 ^ k → n < 2 ^ 64 → length (ended n mark) ≤ k + 1
unfolding decimal
ended-length n k mark l h g =
    rw (length-append (decimal n) (mark ∷ []), digits-length 10 (places 19 n) n) (omega (arith, no_more n k (places 19 n) l h (decimal_fewest n g)))
