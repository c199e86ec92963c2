-- Names that are the same, and those of four letters.
use Prim.Native.Nat.{◌≤◌, ℕ}
use mathlib.Core.Bool.{◌&&◌, false≢true, true}
use mathlib.Core.Path.{◌≡◌, refl}
use mathlib.Core.Logic.{◌↔◌}
use mathlib.Core.List.Memᴰ
use mathlib.Core.List.{[], ◌∷◌}
use native.Mathlib.Omega.{arith}
use lib.ListN.{length}
use lib.Dec.{eqb, ltb}
use borrow.Author.Tests.{eq-eqb, eqb-true, lt-ltb, ltb-true}
use Rattle.lists.specs.Names.{Name, all_letters, four_letters, same_name}
use Rattle.lists.specs.Letters.{FourLetters}
use Rattle.lists.specs.Lists.{◌∈◌}
use Rattle.lists.proofs.Cases.{and-true, either}

pub same_self : (n : Name) → same_name n n ≡ true
same_self [] = refl
same_self (a ∷ n) = rw (eq-eqb a a refl) (same_self n)

pub same-name : (m n : Name) → same_name m n ≡ true → m ≡ n
same-name [] [] e = refl
same-name [] (b ∷ n) e = absurd (false≢true e)
same-name (a ∷ m) [] e = absurd (false≢true e)
same-name (a ∷ m) (b ∷ n) e = let p = and-true (eqb a b) (same_name m n) e in rw (eqb-true a b p.0, same-name m n p.1)

pub four-long : (n : Name) → four_letters n ≡ true → length n ≡ 4
unfolding four_letters
four-long n e = eqb-true (length n) 4 (and-true (eqb (length n) 4) (all_letters n) e).0

all-letters : (n : Name) → all_letters n ≡ true → (b : ℕ) → b ∈ n → (65 ≤ b) × (b ≤ 90)
all-letters [] e b i = absurd (Memᴰ.not-nil i)
all-letters (a ∷ n) e b i =
    let p = and-true (ltb 64 a && ltb a 91) (all_letters n) e in
    let q = and-true (ltb 64 a) (ltb a 91) p.0 in
    let l = ltb-true 64 a q.0 in
    let h = ltb-true a 91 q.1 in
    either (Memᴰ.cases_cons i) (λ z. (omega arith, omega arith)) (all-letters n p.1 b)

letters_all : (n : Name) → ((b : ℕ) → b ∈ n → (65 ≤ b) × (b ≤ 90)) → all_letters n ≡ true
letters_all [] f = refl
letters_all (a ∷ n) f = let l = f a (Memᴰ.head refl) in rw (lt-ltb 64 a (omega (arith, l.0)), lt-ltb a 91 (omega (arith, l.1))) (letters_all n (λ b i. f b (Memᴰ.tail i)))

-- the test says what it is named for
pub four-letters : (n : Name) → (four_letters n ≡ true) ↔ FourLetters n
unfolding four_letters
four-letters n = (λ e. (four-long n e, all-letters n (and-true (eqb (length n) 4) (all_letters n) e).1), λ f. rw (eq-eqb (length n) 4 f.0) (letters_all n f.1))
