-- The mark that bears a name: what the search of `bearer` finds, on any cells.
use Prim.Native.Nat.{ℕ, zero, suc, ◌-◌, ◌<◌, ◌≤◌}
use mathlib.Core.Bool.{true, false, false≢true}
use mathlib.Core.Path.{◌≡◌, refl, sym, ◌∙◌}
use native.Mathlib.Numerals.{sub-one}
use native.Mathlib.Omega.{arith}
use lib.Dec.{ltb}
use borrow.Author.Tests.{ltb-true, not-false}
use Rattle.lists.specs.Names.{Name}
use Rattle.lists.proofs.Cases.{cases}
use Rattle.cells.specs.Sizes.{revisions}
use Rattle.cells.specs.Cells.{Cells}
use Rattle.cells.specs.Checks.{bears, bearer, bearer_below, no_such_mark}

module _ (k : Cells) (n : Name) where
  pub bearer-here : (r : ℕ) → 0 < r → bears k n r ≡ true → bearer_below k n r ≡ r
  unfolding bearer_below
  bearer-here zero pos e = absurd (omega arith)
  bearer-here (suc m) pos e = rw e

  pub bearer-below : (r : ℕ) → 0 < r → bears k n r ≡ false → bearer_below k n r ≡ bearer_below k n (r - 1)
  unfolding bearer_below
  bearer-below zero pos e = absurd (omega arith)
  bearer-below (suc m) pos e = rw (e, sub-one)

  bearer-some : (m : ℕ) → 0 < bearer_below k n m
  unfolding bearer_below
  bearer-some zero = omega arith
  bearer-some (suc m) = let h = bearer-some m in cases (bears k n (suc m)) (λ e. rw e (omega arith)) (λ e. rw e h)

  -- the number found is a revision's, and not the main revision's
  pub bearer-number : no_such_mark k n ≡ false → (0 < bearer k n) × (bearer k n < revisions)
  bearer-number e = (bearer-some 63, ltb-true (bearer k n) revisions (not-false (ltb (bearer k n) revisions) e))

  -- where one number bears the name it is found, and where none does there is none
  pub only-bearer : (m x : ℕ) → 0 < x → x ≤ m → bears k n x ≡ true → ((z : ℕ) → 0 < z → z ≤ m → bears k n z ≡ true → z ≡ x) → bearer_below k n m ≡ x
  unfolding bearer_below
  only-bearer zero x pos l t only = absurd (omega arith)
  only-bearer (suc m) x pos l t only =
      cases (bears k n (suc m))
      (λ e. rw e (only (suc m) (omega arith) (omega arith) e))
      (λ e.
      let other : x ≡ suc m → ⊥ = λ z. false≢true (sym e ∙ rw z at t) in
      rw e (only-bearer m x pos (omega arith) t (λ z p h. only z p (omega arith))))

  pub no-bearer : (m : ℕ) → ((z : ℕ) → 0 < z → z ≤ m → bears k n z ≡ true → ⊥) → bearer_below k n m ≡ revisions
  unfolding bearer_below
  no-bearer zero none = refl
  no-bearer (suc m) none =
      cases (bears k n (suc m))
      (λ e. absurd (none (suc m) (omega arith) (omega arith) e))
      (λ e. rw e (no-bearer m (λ z p h. none z p (omega arith))))
