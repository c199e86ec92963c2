-- Sums of the same values, of values that end, and with one value changed; what sums are at most; a test of the numbers below n, and the last that passes it.
use Prim.Native.Nat.{◌+◌, ◌<◌, ◌≤◌, suc, zero, ℕ}
use mathlib.Core.Bool.{Bool, false, false≢true, true}
use mathlib.Core.Path.{◌∙◌, ◌≡◌, refl, sym}
use native.Mathlib.Numerals.{add-one}
use native.Mathlib.Omega.{arith}
use lib.Dec.{eqb, ltb}
use borrow.Author.Tests.{eqb-false, eqb-true, ltb-false, ltb-true}
use Rattle.lists.proofs.Cases.{cases, or_left, or_right}
use Rattle.lists.specs.Sums.{any_below, last_below, sum_below}

pub sum_same : (n : ℕ) (f g : ℕ → ℕ) → ((x : ℕ) → x < n → f x ≡ g x) → sum_below n f ≡ sum_below n g
sum_same zero f g h = refl
sum_same (suc n) f g h = let a = sum_same n f g (λ x l. h x (omega arith)) in let b = h n (omega arith) in omega arith

pub sum-ends : (n m : ℕ) (f : ℕ → ℕ) → n ≤ m → ((x : ℕ) → n ≤ x → f x ≡ 0) → sum_below m f ≡ sum_below n f
sum-ends n zero f l h = let z : n ≡ 0 = omega arith in rw z
sum-ends n (suc m) f l h =
    cases (eqb n (suc m))
    (λ e. rw (eqb-true n (suc m) e))
    (λ e. let q = eqb-false n (suc m) e in let a = sum-ends n m f (omega arith) h in let b = h m (omega arith) in omega arith)

pub sum-changed : (n a : ℕ) (f g : ℕ → ℕ) → a < n → ((x : ℕ) → x < n → (x ≡ a → ⊥) → g x ≡ f x) → sum_below n g + f a ≡ sum_below n f + g a
sum-changed zero a f g l h = absurd (omega arith)
sum-changed (suc n) a f g l h =
    cases (eqb a n)
    (λ e. let z = eqb-true a n e in let s = sum_same n g f (λ x k. h x (omega arith) (λ q. omega arith)) in rw z (omega arith))
    (λ e. let z = eqb-false a n e in let s = sum-changed n a f g (omega arith) (λ x k. h x (omega arith)) in let b = h n (omega arith) (λ q. z (sym q)) in omega arith)

-- of values that are 0 but at one place, at most the value there; of values 0 and 1, at most their number; and of values that two others reach together
pub sum_one : (n a : ℕ) (f : ℕ → ℕ) → ((x : ℕ) → (x ≡ a → ⊥) → f x ≡ 0) → sum_below n f ≤ f a
sum_one n a f h =
    let z = sum-ends 0 n (λ x. 0) (omega arith) (λ x l. refl) in
    cases (ltb a n)
    (λ e. let s = sum-changed n a (λ x. 0) f (ltb-true a n e) (λ x l. h x) in omega arith)
    (λ e. let o = ltb-false a n e in let s = sum_same n f (λ x. 0) (λ x l. h x (λ q. omega arith)) in omega arith)

pub sum_ones : (n : ℕ) (f : ℕ → ℕ) → ((x : ℕ) → f x ≤ 1) → sum_below n f ≤ n
sum_ones zero f h = omega arith
sum_ones (suc n) f h = let a = sum_ones n f h in let b = h n in omega arith

sum-most : (n : ℕ) (f g h : ℕ → ℕ) → ((x : ℕ) → f x ≤ g x + h x) → sum_below n f ≤ sum_below n g + sum_below n h
sum-most zero f g h l = omega arith
sum-most (suc n) f g h l = let a = sum-most n f g h l in let b = l n in omega arith

pub sum_both : (n : ℕ) (f g h : ℕ → ℕ) (a b : ℕ) → ((x : ℕ) → f x ≤ g x + h x) → sum_below n g ≤ a → sum_below n h ≤ b → sum_below n f ≤ a + b
sum_both n f g h a b l k m = let s = sum-most n f g h l in omega arith

pub any_same : (n : ℕ) (f g : ℕ → Bool) → ((x : ℕ) → x < n → f x ≡ g x) → any_below n f ≡ any_below n g
unfolding any_below
any_same zero f g h = refl
any_same (suc n) f g h = rw (any_same n f g (λ x l. h x (omega arith)), h n (omega arith))

pub any_more : (n : ℕ) (f : ℕ → Bool) → any_below n f ≡ false → f n ≡ false → any_below (n + 1) f ≡ false
unfolding any_below
any_more n f e g = rw (add-one, g, e)

pub any_at : (n : ℕ) (f : ℕ → Bool) (x : ℕ) → x < n → f x ≡ true → any_below n f ≡ true
unfolding any_below
any_at zero f x h e = absurd (omega arith)
any_at (suc n) f x h e =
    cases (eqb x n)
    (λ q. or_left (f n) (any_below n f) (rw (eqb-true x n q) at e))
    (λ q. let d = eqb-false x n q in or_right (f n) (any_below n f) (any_at n f x (omega arith) e))

pub any_none : (n : ℕ) (f : ℕ → Bool) → any_below n f ≡ false → (x : ℕ) → x < n → f x ≡ false
any_none n f e x h = cases (f x) (λ q. absurd (false≢true (sym e ∙ any_at n f x h q))) (λ q. q)

pub any_never : (n : ℕ) (f : ℕ → Bool) → ((x : ℕ) → x < n → f x ≡ false) → any_below n f ≡ false
unfolding any_below
any_never zero f h = refl
any_never (suc n) f h = rw (h n (omega arith), any_never n f (λ x l. h x (omega arith)))

pub last_passes : (n : ℕ) (f : ℕ → Bool) → any_below n f ≡ true → (last_below n f < n) × (f (last_below n f) ≡ true)
unfolding any_below
last_passes zero f e = absurd (false≢true e)
last_passes (suc n) f e = cases (f n) (λ q. rw q (omega arith, q)) (λ q. let k = last_passes n f (rw q at e) in rw q (omega (arith, k.0), k.1))
