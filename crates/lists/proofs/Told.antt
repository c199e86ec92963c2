-- What an answer that a test has picked says of the test. That two answers differ is given as a way from their equality to 0 ≡ 1.
use Prim.Native.Nat.{ℕ}
use mathlib.Core.Bool.{Bool, true, false, cond}
use mathlib.Core.Path.{◌≡◌, refl, sym}
use native.Mathlib.Omega.{arith}

-- the answer is not the second one, so the test held; or not the first one, so it did not
pub held : {A : Type 0} (test : Bool) (a b x : A) → (b ≡ x → ◌≡◌ {A = ℕ} 0 1) → cond test a b ≡ x → (test ≡ true) × (a ≡ x)
held true a b x never e = (refl, e)
held false a b x never e = absurd (let z = never e in omega arith)

pub failed : {A : Type 0} (test : Bool) (a b x : A) → (a ≡ x → ◌≡◌ {A = ℕ} 0 1) → cond test a b ≡ x → (test ≡ false) × (b ≡ x)
failed true a b x never e = absurd (let z = never e in omega arith)
failed false a b x never e = (refl, e)

-- both, of an answer that is one of two
pub record Told {A : Type 0} (test : Bool) (a b x : A) : Type 0 where
  pub holds : x ≡ a → test ≡ true
  pub fails : x ≡ b → test ≡ false

pub told : {A : Type 0} (test : Bool) (a b : A) → (a ≡ b → ◌≡◌ {A = ℕ} 0 1) → Told test a b (cond test a b)
told test a b differ = record { holds = λ e. (held test a b a (λ d. differ (sym d)) e).0; fails = λ e. (failed test a b b differ e).0 }
