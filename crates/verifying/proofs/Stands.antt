-- What the checks find of all numbers, one after the other.
use Prim.Native.Nat.{ℕ, ◌+◌, ◌<◌, ◌≤◌}
use mathlib.Core.Bool.{Bool, true, false, not}
use mathlib.Core.Path.{◌≡◌, refl, sym, ◌∙◌, ap}
use mathlib.Core.List.{List}
use native.Mathlib.Omega.{arith}
use borrow.Author.Tests.{not-true, not-false}
use Rattle.lists.specs.Sums.{any_below}
use Rattle.lists.proofs.Sums.{any_more, any_at}
use Rattle.orderfile.specs.Test.{wrong, in_order}

-- no box out is out of order
module _ (boxes : ℕ) (is_out : ℕ → Bool) (listed : ℕ → List ℕ) (place : ℕ → ℕ) where
  abbrev bad : ℕ → Bool
  bad = wrong is_out listed place

  pub none_yet : any_below 0 bad ≡ false
  unfolding any_below
  none_yet = refl

  module _ (n : ℕ) (x : Bool) (e : x ≡ not (bad n)) where
    pub none_more : any_below n bad ≡ false → x ≡ true → any_below (n + 1) bad ≡ false
    none_more h t = any_more n bad h (not-true (bad n) (sym e ∙ t))

    pub one_found : n < boxes → x ≡ false → false ≡ in_order boxes is_out listed place
    unfolding in_order
    one_found l f = rw (any_at boxes bad n l (not-false (bad n) (sym e ∙ f)))

  pub none_found : (n : ℕ) → n ≤ boxes → boxes ≤ n → any_below n bad ≡ false → true ≡ in_order boxes is_out listed place
  unfolding in_order
  none_found n h g e = let q : n ≡ boxes = omega arith in rw (ap (λ k. any_below k bad) (sym q) ∙ e)
