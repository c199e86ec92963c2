-- How many numbers a list has.
use Prim.Native.Nat.{◌<◌, ◌≤◌, suc, zero, ℕ}
use mathlib.Core.Path.{◌≡◌, refl, sym}
use mathlib.Core.List.Memᴰ
use mathlib.Core.List.Nodup
use mathlib.Core.List.Sublistᴰ
use mathlib.Core.List.{List, Nodup, [], ◌∷◌}
use native.Mathlib.Omega.{arith}
use lib.ListN.{length}
use lib.Dec.{eqb}
use Rattle.lists.proofs.Cases.{cases}
use Rattle.lists.proofs.Places.{remove_back, remove_gone}
use Rattle.lists.specs.Lists.{◌∈◌, ◌⊑◌}
use Rattle.lists.specs.Arranged.{remove}

pub remove-⊑ : (b : ℕ) (l : List ℕ) → remove b l ⊑ l
unfolding remove
remove-⊑ b [] = Sublistᴰ.refl []
remove-⊑ b (x ∷ l) = cases (eqb x b) (λ e. rw e (Sublistᴰ.cons (Sublistᴰ.refl l))) (λ e. rw e (Sublistᴰ.cons-cons refl (remove-⊑ b l)))

remove-one : (b : ℕ) (l : List ℕ) → length l ≤ suc (length (remove b l))
unfolding remove
remove-one b [] = omega arith
remove-one b (x ∷ l) = let h = remove-one b l in cases (eqb x b) (λ e. rw e (omega arith)) (λ e. rw e (omega arith))

-- there are no more than n different numbers below n
pub few_below : (n : ℕ) (l : List ℕ) → Nodup l → ((x : ℕ) → x ∈ l → x < n) → length l ≤ n
few_below zero [] d h = omega arith
few_below zero (x ∷ l) d h = let a = h x (Memᴰ.head refl) in absurd (omega arith)
few_below (suc n) l d h =
    let below : (x : ℕ) → x ∈ remove n l → x < n = λ x i. let a = h x (remove_back n x l i) in let b : x ≡ n → ⊥ = λ e. remove_gone n l d (Memᴰ.cast (sym e) i) in omega arith in
    let k = few_below n (remove n l) (Nodup.sublist ∣ remove-⊑ n l ∣₁ d) below in
    let m = remove-one n l in
    omega arith
