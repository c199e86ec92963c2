-- A list that grows at its end keeps its front.
use Prim.Native.Nat.{◌≤◌, suc, ℕ}
use mathlib.Core.Bool.{cond}
use mathlib.Core.Path.{◌∙◌, ◌≡◌, refl}
use mathlib.Core.List.{List, [], ◌++◌, ◌∷◌, append-nil, head-eq_of_cons-eq}
use native.Mathlib.Omega.{arith}
use lib.Dec.{eqb}
use lib.ListN.{length, length-append, take}
use lib.Seq.{take-append-le}
use borrow.Author.Tests.{eqb-true, ne_eqb}
use Rattle.lists.proofs.Cases.{cases}
use Rattle.lists.specs.Lists.{changed}

-- of many lists, one grows
module _ (f : ℕ → List ℕ) (r : ℕ) where
  pub grown-take : (w : List ℕ) (n x : ℕ) → n ≤ length (f x) → take n (changed f r (f r ++ w) x) ≡ take n (f x)
  grown-take w n x h = cases (eqb x r) (λ e. rw (e, ← (eqb-true x r e)) (take-append-le n (f x) w h)) (λ e. rw e)

  pub grown-longer : (w : List ℕ) (x : ℕ) → length (f x) ≤ length (changed f r (f r ++ w) x)
  grown-longer w x = cases (eqb x r) (λ e. rw (e, ← (eqb-true x r e), length-append) (omega arith)) (λ e. rw e (omega arith))

  pub grown-none : (x : ℕ) → changed f r (f r ++ []) x ≡ f x
  grown-none x = cases (eqb x r) (λ e. rw (e, append-nil, eqb-true x r e)) (λ e. rw e)

-- the first of two lists in a row
pub first_append : (x y : List ℕ) (fx fy : ℕ) → ((f : ℕ) (l : List ℕ) → x ≡ f ∷ l → fx ≡ f) → ((f : ℕ) (l : List ℕ) → y ≡ f ∷ l → fy ≡ f)
    → (f : ℕ) (l : List ℕ) → x ++ y ≡ f ∷ l → cond (eqb (length x) 0) fy fx ≡ f
first_append [] y fx fy hx hy f l e = hy f l e
first_append (z ∷ x) y fx fy hx hy f l e = rw (ne_eqb (suc (length x)) 0 (λ q. omega arith)) (hx z x refl ∙ head-eq_of_cons-eq e)
