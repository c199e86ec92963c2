-- Where an element stands, and what putting one in or taking one out does.
use Prim.Native.Nat.{◌<◌, suc, zero, ℕ}
use mathlib.Core.Bool.{cond, false, true}
use mathlib.Core.Path.{◌∙◌, ◌≡◌, ap, refl, sym}
use mathlib.Core.Logic.{◌⊎◌, inl, inr}
use mathlib.Core.List.Memᴰ
use mathlib.Core.List.{List, Nodup}
use mathlib.Core.List.Nodup
use mathlib.Core.List.Sublistᴰ
use mathlib.Core.List.{[], ◌++◌, ◌∷◌, head-eq_of_cons-eq, Nodup-cons}
use native.Mathlib.Omega.{arith}
use lib.Dec.{eqb}
use lib.ListN.{get_or, length, replicate, set, take}
use borrow.Author.Tests.{eq-eqb, eqb-false, eqb-true, ne_eqb}
use Rattle.lists.proofs.Cases.{either, split}
use Rattle.lists.proofs.Sublists.{parts, ∈-⊑, ⊑-⊆}
use Rattle.lists.specs.Lists.{◌∈◌, ◌⊑◌, rest_of}
use Rattle.lists.specs.Arranged.{behind, insert_before, remove}

-- where an element stands
pub record Place (b : ℕ) (l : List ℕ) : Type 0 where
  pub above : List ℕ
  pub below : List ℕ
  pub eq : l ≡ above ++ b ∷ below

pub place : (b : ℕ) (l : List ℕ) → b ∈ l → Place b l
place b [] x' = elim x' [ ]
place b (x ∷ l) (Memᴰ.head e) = record { above = []; below = l; eq = rw e }
place b (x ∷ l) (Memᴰ.tail m) = let p = place b l m in record { above = x ∷ p.above; below = p.below; eq = ap (λ t. x ∷ t) p.eq }

-- in a list with no duplicates, what stands before b stands in front of b's place
pub in_front : {y b : ℕ} (r l : List ℕ) → Nodup (r ++ (b ∷ l)) → (y ∷ b ∷ []) ⊑ r ++ (b ∷ l) → y ∈ r
in_front {y} {b} r l d s = let p = parts r (b ∷ l) s in go p.one p.two p.whole p.fst p.snd
  where
    fresh : b ∈ l → ⊥
    fresh m = (Nodup-cons.0 (Nodup.of_append_right r d)).0 ∣ m ∣₁

    late : ((y ∷ b ∷ []) ⊑ l) ⊎ ((y ≡ b) × ((b ∷ []) ⊑ l)) → ⊥
    late (inl t) = fresh (⊑-⊆ t b (Memᴰ.tail (Memᴰ.head refl)))
    late (inr t) = fresh (⊑-⊆ t.1 b (Memᴰ.head refl))

    go : (u v : List ℕ) → (y ∷ b ∷ []) ≡ u ++ v → u ⊑ r → v ⊑ b ∷ l → y ∈ r
    go [] v e f g = absurd (late (Sublistᴰ.cases_cons-cons (rw (← e) at g)))
    go (z ∷ u) v e f g = ⊑-⊆ f y (Memᴰ.head (head-eq_of_cons-eq e))

-- the places of two elements, one before the other
pub record Places (b a : ℕ) (l : List ℕ) : Type 0 where
  pub above : List ℕ
  pub between : List ℕ
  pub below : List ℕ
  pub eq : l ≡ above ++ (b ∷ (between ++ (a ∷ below)))

pub places : (b a : ℕ) (l : List ℕ) → (b ∷ a ∷ []) ⊑ l → Places b a l
places b a [] s = absurd (Memᴰ.not-nil (⊑-⊆ s b (Memᴰ.head refl)))
places b a (x ∷ l) s = pick (Sublistᴰ.cases_cons-cons s) (places b a l)
  where
    pick : ((b ∷ a ∷ []) ⊑ l) ⊎ ((b ≡ x) × ((a ∷ []) ⊑ l)) → ((b ∷ a ∷ []) ⊑ l → Places b a l) → Places b a (x ∷ l)
    pick (inl t) k = let p = k t in record { above = x ∷ p.above; between = p.between; below = p.below; eq = ap (λ z. x ∷ z) p.eq }
    pick (inr t) k = let p = place a l (⊑-⊆ t.1 a (Memᴰ.head refl)) in record { above = []; between = p.above; below = p.below; eq = λ i. sym t.0 i ∷ p.eq i }

pub insert_at : (p c : ℕ) (r l : List ℕ) → (p ∈ r → ⊥) → insert_before p c (r ++ (p ∷ l)) ≡ r ++ (c ∷ p ∷ l)
unfolding insert_before
insert_at p c [] l h = rw (eq-eqb p p refl)
insert_at p c (x ∷ r) l h = rw (ne_eqb x p (λ e. h (Memᴰ.head (sym e))), insert_at p c r l (λ m. h (Memᴰ.tail m)))

pub remove_at : (b : ℕ) (r l : List ℕ) → (b ∈ r → ⊥) → remove b (r ++ (b ∷ l)) ≡ r ++ l
unfolding remove
remove_at b [] l h = rw (eq-eqb b b refl)
remove_at b (x ∷ r) l h = rw (ne_eqb x b (λ e. h (Memᴰ.head (sym e))), remove_at b r l (λ m. h (Memᴰ.tail m)))

-- c put in front of p, and b taken out: who is there
pub insert_new : (p c : ℕ) (l : List ℕ) → p ∈ l → c ∈ insert_before p c l
unfolding insert_before
insert_new p c [] i = elim i [ ]
insert_new p c (x ∷ l) i = pick (split (eqb x p)) (insert_new p c l)
  where
    pick : (eqb x p ≡ true) ⊎ (eqb x p ≡ false) → (p ∈ l → c ∈ insert_before p c l) → c ∈ cond (eqb x p) (c ∷ x ∷ l) (x ∷ insert_before p c l)
    pick (inl e) k = rw e (Memᴰ.head refl)
    pick (inr e) k = rw e (either (Memᴰ.cases_cons i) (λ q. absurd (eqb-false x p e (sym q))) (λ j. Memᴰ.tail (k j)))

pub insert_old : (p c x : ℕ) (l : List ℕ) → x ∈ l → x ∈ insert_before p c l
unfolding insert_before
insert_old p c x [] i = elim i [ ]
insert_old p c x (z ∷ l) i = pick (split (eqb z p)) (insert_old p c x l)
  where
    pick : (eqb z p ≡ true) ⊎ (eqb z p ≡ false) → (x ∈ l → x ∈ insert_before p c l) → x ∈ cond (eqb z p) (c ∷ z ∷ l) (z ∷ insert_before p c l)
    pick (inl e) k = rw e (Memᴰ.tail i)
    pick (inr e) k = rw e (either (Memᴰ.cases_cons i) (λ q. Memᴰ.head q) (λ j. Memᴰ.tail (k j)))

pub insert_back : (p c x : ℕ) (l : List ℕ) → x ∈ insert_before p c l → (x ≡ c) ⊎ (x ∈ l)
unfolding insert_before
insert_back p c x [] i = absurd (Memᴰ.not-nil i)
insert_back p c x (z ∷ l) i = pick (split (eqb z p)) (insert_back p c x l)
  where
    later : (x ≡ z) ⊎ (x ∈ insert_before p c l) → (x ∈ insert_before p c l → (x ≡ c) ⊎ (x ∈ l)) → (x ≡ c) ⊎ (x ∈ (z ∷ l))
    later (inl e) k = inr (Memᴰ.head e)
    later (inr j) k = either (k j) (λ q. inl q) (λ h. inr (Memᴰ.tail h))

    pick : (eqb z p ≡ true) ⊎ (eqb z p ≡ false) → (x ∈ insert_before p c l → (x ≡ c) ⊎ (x ∈ l)) → (x ≡ c) ⊎ (x ∈ (z ∷ l))
    pick (inl e) k = Memᴰ.cases_cons (rw e at i)
    pick (inr e) k = later (Memᴰ.cases_cons (rw e at i)) k

pub remove_back : (b x : ℕ) (l : List ℕ) → x ∈ remove b l → x ∈ l
unfolding remove
remove_back b x [] i = i
remove_back b x (z ∷ l) i = pick (split (eqb z b)) (remove_back b x l)
  where
    pick : (eqb z b ≡ true) ⊎ (eqb z b ≡ false) → (x ∈ remove b l → x ∈ l) → x ∈ (z ∷ l)
    pick (inl e) k = Memᴰ.tail (rw e at i)
    pick (inr e) k = either (Memᴰ.cases_cons (rw e at i)) (λ q. Memᴰ.head q) (λ j. Memᴰ.tail (k j))

pub remove-keep : (b x : ℕ) (l : List ℕ) → (x ≡ b → ⊥) → x ∈ l → x ∈ remove b l
unfolding remove
remove-keep b x [] n i = elim i [ ]
remove-keep b x (z ∷ l) n i = pick (split (eqb z b)) (remove-keep b x l n)
  where
    pick : (eqb z b ≡ true) ⊎ (eqb z b ≡ false) → (x ∈ l → x ∈ remove b l) → x ∈ cond (eqb z b) l (z ∷ remove b l)
    pick (inl e) k = rw e (either (Memᴰ.cases_cons i) (λ q. absurd (n (q ∙ eqb-true z b e))) (λ j. j))
    pick (inr e) k = rw e (either (Memᴰ.cases_cons i) (λ q. Memᴰ.head q) (λ j. Memᴰ.tail (k j)))

pub remove_gone : (b : ℕ) (l : List ℕ) → Nodup l → b ∈ remove b l → ⊥
unfolding remove
remove_gone b [] d i = Memᴰ.not-nil i
remove_gone b (z ∷ l) d i = pick (split (eqb z b)) (remove_gone b l (Nodup-cons.0 d).1)
  where
    pick : (eqb z b ≡ true) ⊎ (eqb z b ≡ false) → (b ∈ remove b l → ⊥) → ⊥
    pick (inl e) k = let j : b ∈ l = rw e at i in (Nodup-cons.0 d).0 ∣ Memᴰ.cast (eqb-true z b e) j ∣₁
    pick (inr e) k = either (Memᴰ.cases_cons (rw e at i)) (λ q. eqb-false z b e (sym q)) (λ j. k j)

pub insert_sub : (p c : ℕ) (l : List ℕ) → l ⊑ insert_before p c l
unfolding insert_before
insert_sub p c [] = Sublistᴰ.refl []
insert_sub p c (x ∷ l) = pick (split (eqb x p)) (insert_sub p c l)
  where
    pick : (eqb x p ≡ true) ⊎ (eqb x p ≡ false) → l ⊑ insert_before p c l → (x ∷ l) ⊑ cond (eqb x p) (c ∷ x ∷ l) (x ∷ insert_before p c l)
    pick (inl e) k = rw e (Sublistᴰ.cons (Sublistᴰ.refl (x ∷ l)))
    pick (inr e) k = rw e (Sublistᴰ.cons-cons refl k)

pub insert_self : (p c : ℕ) (l : List ℕ) → p ∈ l → (c ∷ p ∷ []) ⊑ insert_before p c l
unfolding insert_before
insert_self p c [] i = elim i [ ]
insert_self p c (x ∷ l) i = pick (split (eqb x p)) (insert_self p c l)
  where
    pick : (eqb x p ≡ true) ⊎ (eqb x p ≡ false) → (p ∈ l → (c ∷ p ∷ []) ⊑ insert_before p c l) → (c ∷ p ∷ []) ⊑ cond (eqb x p) (c ∷ x ∷ l) (x ∷ insert_before p c l)
    pick (inl e) k = rw e (Sublistᴰ.cons-cons refl (∈-⊑ p (x ∷ l) i))
    pick (inr e) k = rw e (either (Memᴰ.cases_cons i) (λ q. absurd (eqb-false x p e (sym q))) (λ j. Sublistᴰ.cons (k j)))

pub insert_pair : (p c z : ℕ) (l : List ℕ) → (p ∷ z ∷ []) ⊑ l → (c ∷ z ∷ []) ⊑ insert_before p c l
unfolding insert_before
insert_pair p c z [] s = absurd (Memᴰ.not-nil (⊑-⊆ s p (Memᴰ.head refl)))
insert_pair p c z (x ∷ l) s = pick (split (eqb x p)) (insert_pair p c z l)
  where
    pick : (eqb x p ≡ true) ⊎ (eqb x p ≡ false) → ((p ∷ z ∷ []) ⊑ l → (c ∷ z ∷ []) ⊑ insert_before p c l) → (c ∷ z ∷ []) ⊑ cond (eqb x p) (c ∷ x ∷ l) (x ∷ insert_before p c l)
    pick (inl e) k = rw e (Sublistᴰ.cons-cons refl (∈-⊑ z (x ∷ l) (⊑-⊆ s z (Memᴰ.tail (Memᴰ.head refl)))))
    pick (inr e) k = rw e (either (Sublistᴰ.cases_cons-cons s) (λ t. Sublistᴰ.cons (k t)) (λ t. absurd (eqb-false x p e (sym t.0))))

pub remove_sub : (b : ℕ) (w l : List ℕ) → w ⊑ l → (b ∈ w → ⊥) → w ⊑ remove b l
unfolding remove
remove_sub b w [] s n = s
remove_sub b w (x ∷ l) s n = pick (split (eqb x b)) (λ u. remove_sub b u l)
  where
    pick : (eqb x b ≡ true) ⊎ (eqb x b ≡ false) → ((u : List ℕ) → u ⊑ l → (b ∈ u → ⊥) → u ⊑ remove b l) → w ⊑ cond (eqb x b) l (x ∷ remove b l)
    pick (inl e) k = rw e (either (Sublistᴰ.cases_cons s) (λ t. t) (λ t. absurd (n (rw t.1 (Memᴰ.head (sym (eqb-true x b e)))))))
    pick (inr e) k = rw e (either (Sublistᴰ.cases_cons s) (λ t. Sublistᴰ.cons (k w t n)) (λ t. rw t.1 (Sublistᴰ.cons-cons refl (k t.0 t.2 (λ i. n (rw t.1 (Memᴰ.tail i)))))))

pub behind_in : (r : ℕ) (l : List ℕ) (x : ℕ) → x ∈ behind r l → x ∈ l
unfolding behind
behind_in r [] x i = i
behind_in r (z ∷ l) x i = pick (split (eqb z r)) (behind_in r l x)
  where
    pick : (eqb z r ≡ true) ⊎ (eqb z r ≡ false) → (x ∈ behind r l → x ∈ l) → x ∈ (z ∷ l)
    pick (inl e) k = Memᴰ.tail (rw e at i)
    pick (inr e) k = Memᴰ.tail (k (rw e at i))

pub take_in : (x n : ℕ) (l : List ℕ) → x ∈ take n l → x ∈ l
take_in x zero l i = absurd (Memᴰ.not-nil i)
take_in x (suc n) [] i = i
take_in x (suc n) (z ∷ l) (Memᴰ.head e) = Memᴰ.head e
take_in x (suc n) (z ∷ l) (Memᴰ.tail i) = Memᴰ.tail (take_in x n l i)

pub rest_in : (x : ℕ) (l : List ℕ) → x ∈ rest_of l → x ∈ l
rest_in x [] i = i
rest_in x (z ∷ l) i = Memᴰ.tail i

pub set_in : (x : ℕ) (l : List ℕ) (n v : ℕ) → x ∈ set l n v → (x ≡ v) ⊎ (x ∈ l)
set_in x [] n v i = absurd (Memᴰ.not-nil i)
set_in x (z ∷ l) zero v i = either (Memᴰ.cases_cons i) (λ e. inl e) (λ j. inr (Memᴰ.tail j))
set_in x (z ∷ l) (suc n) v i = either (Memᴰ.cases_cons i) (λ e. inr (Memᴰ.head e)) (λ j. either (set_in x l n v j) (λ e. inl e) (λ o. inr (Memᴰ.tail o)))

pub get_or_in : (l : List ℕ) (i d : ℕ) → i < length l → get_or l i d ∈ l
get_or_in [] i d h = absurd (omega arith)
get_or_in (x ∷ l) zero d h = Memᴰ.head refl
get_or_in (x ∷ l) (suc i) d h = Memᴰ.tail (get_or_in l i d (omega arith))

pub replicate_in : (x n a : ℕ) → x ∈ replicate n a → x ≡ a
replicate_in x zero a i = absurd (Memᴰ.not-nil i)
replicate_in x (suc n) a (Memᴰ.head e) = e
replicate_in x (suc n) a (Memᴰ.tail i) = replicate_in x n a i
