-- Ordered sublists, inclusion, lists that are apart and lists without duplicates.
use Prim.Native.Nat.{ℕ}
use mathlib.Core.Bool.{false, true}
use mathlib.Core.Path.{◌∙◌, ◌≡◌, ap, refl, subst, sym}
use mathlib.Core.Logic.{◌⊎◌, inl, inr, ∥∥₁_elim}
use mathlib.Core.HLevel.{⊥_prop}
use mathlib.Core.List.Memᴰ
use mathlib.Core.List.{List, Nodup}
use mathlib.Core.List.Sublistᴰ
use mathlib.Core.List.{[], ◌++◌}
use mathlib.Core.List.{◌∷◌, append-nil, Nodup-append, Nodup-cons, Nodup-nil, not-mem-nil}
use lib.Dec.{eqb}
use borrow.Author.Tests.{eqb-false, eqb-true}
use Rattle.lists.proofs.Cases.{either, split}
use Rattle.lists.specs.Lists.{Only, ends, keeps, drops, ◌∈◌, ◌⊑◌}
use Rattle.lists.specs.Arranged.{Apart, ◌⊆◌}

pub ⊑-⊆ : {a b : List ℕ} → a ⊑ b → a ⊆ b
⊑-⊆ Sublistᴰ.slnil n m = m
⊑-⊆ (Sublistᴰ.cons s) n m = Memᴰ.tail (⊑-⊆ s n m)
⊑-⊆ (Sublistᴰ.cons-cons e s) n (Memᴰ.head q) = Memᴰ.head (q ∙ e)
⊑-⊆ (Sublistᴰ.cons-cons e s) n (Memᴰ.tail m) = Memᴰ.tail (⊑-⊆ s n m)

pub ⊑-left : (a b : List ℕ) → a ⊑ a ++ b
⊑-left [] b = Sublistᴰ.nil-sublist b
⊑-left (x ∷ a) b = Sublistᴰ.cons-cons refl (⊑-left a b)

pub ⊑-right : (a b : List ℕ) → b ⊑ a ++ b
⊑-right [] b = Sublistᴰ.refl b
⊑-right (x ∷ a) b = Sublistᴰ.cons (⊑-right a b)

-- a sublist of two lists in a row is a sublist of each, in a row
pub record Parts (w a b : List ℕ) : Type 0 where
  pub one : List ℕ
  pub two : List ℕ
  pub whole : w ≡ one ++ two
  pub fst : one ⊑ a
  pub snd : two ⊑ b

pub parts : {w : List ℕ} (a b : List ℕ) → w ⊑ a ++ b → Parts w a b
parts {w} [] b s = record { one = []; two = w; whole = refl; fst = Sublistᴰ.slnil; snd = s }
parts {w} (x ∷ a) b s = pick (Sublistᴰ.cases_cons s) (λ u t. parts {w = u} a b t)
  where
    pick : (w ⊑ a ++ b) ⊎ ((r : List ℕ) × (w ≡ x ∷ r) × (r ⊑ a ++ b)) → ((u : List ℕ) → u ⊑ a ++ b → Parts u a b) → Parts w (x ∷ a) b
    pick (inl t) k = let p = k w t in record { one = p.one; two = p.two; whole = p.whole; fst = Sublistᴰ.cons p.fst; snd = p.snd }
    pick (inr t) k = let p = k t.0 t.2 in record { one = x ∷ p.one; two = p.two; whole = t.1 ∙ ap (λ l. x ∷ l) p.whole; fst = Sublistᴰ.cons-cons refl p.fst; snd = p.snd }

pub nothing : (w : List ℕ) → ((n : ℕ) → n ∈ w → ⊥) → w ≡ []
nothing [] h = refl
nothing (x ∷ w) h = absurd (h x (Memᴰ.head refl))

-- what a sublist has nothing of can be left out
pub skip_right : {w : List ℕ} (a b : List ℕ) → w ⊑ a ++ b → Apart w b → w ⊑ a
skip_right {w} a b s h =
    let p = parts a b s in
    let e : p.two ≡ [] = nothing p.two (λ n m. h n (rw p.whole (Memᴰ.append_right p.one m)) (⊑-⊆ p.snd n m)) in
    let f : w ≡ p.one = p.whole ∙ ap (λ l. p.one ++ l) e ∙ append-nil p.one in
    rw f p.fst

pub skip_mid : {w : List ℕ} (a b c : List ℕ) → w ⊑ a ++ b ++ c → Apart w b → w ⊑ a ++ c
skip_mid {w} a b c s h =
    let p = parts (a ++ b) c s in
    rw p.whole (Sublistᴰ.append (skip_right a b p.fst (λ n m. h n (rw p.whole (Memᴰ.append_left p.two m)))) p.snd)

pub skip_head : {w : List ℕ} (b : ℕ) (l : List ℕ) → w ⊑ b ∷ l → (b ∈ w → ⊥) → w ⊑ l
skip_head {w} b l s h = either (Sublistᴰ.cases_cons s) (λ t. t) (λ t. absurd (h (rw t.1 (Memᴰ.head refl))))

pub skip_one : {w : List ℕ} (r : List ℕ) (b : ℕ) (l : List ℕ) → w ⊑ r ++ b ∷ l → (b ∈ w → ⊥) → w ⊑ r ++ l
skip_one {w} r b l s h =
    let p = parts r (b ∷ l) s in
    rw p.whole (Sublistᴰ.append p.fst (skip_head b l p.snd (λ m. h (rw p.whole (Memᴰ.append_right p.one m)))))

pub ∈-⊑ : (b : ℕ) (l : List ℕ) → b ∈ l → (b ∷ []) ⊑ l
∈-⊑ b [] x' = elim x' [ ]
∈-⊑ b (x ∷ l) (Memᴰ.head e) = Sublistᴰ.cons-cons e (Sublistᴰ.nil-sublist l)
∈-⊑ b (x ∷ l) (Memᴰ.tail m) = Sublistᴰ.cons (∈-⊑ b l m)

-- inclusion and being apart, in rows
pub ⊆-++ : {a b c : List ℕ} → a ⊆ c → b ⊆ c → (a ++ b) ⊆ c
⊆-++ {a} {b} {c} f g n m = either (Memᴰ.append_cases a m) (λ h. f n h) (λ h. g n h)

pub apart-++ : {a b c : List ℕ} → Apart a c → Apart b c → Apart (a ++ b) c
apart-++ {a} {b} {c} f g n m k = either (Memᴰ.append_cases a m) (λ h. f n h k) (λ h. g n h k)

pub nodup_apart : (a b : List ℕ) → Nodup (a ++ b) → Apart a b
nodup_apart a b h n m k = ((Nodup-append {l₁ = a} {l₂ = b}).0 h).2 n ∣ m ∣₁ ∣ k ∣₁

-- one more at the end
pub nodup_more : (l : List ℕ) (x : ℕ) → Nodup l → (x ∈ l → ⊥) → Nodup (l ++ (x ∷ []))
nodup_more l x d n =
    (Nodup-append {l₁ = l} {l₂ = x ∷ []}).1 (d, Nodup-cons.1 (not-mem-nil, Nodup-nil), λ a i j. ∥∥₁_elim i ⊥_prop (λ u. ∥∥₁_elim j ⊥_prop (λ v. n (rw (Memᴰ.eq_of_singleton v) at u))))

pub mem? : (n : ℕ) (l : List ℕ) → (n ∈ l) ⊎ (n ∈ l → ⊥)
mem? n [] = inr (λ i. Memᴰ.not-nil i)
mem? n (x ∷ l) = pick (split (eqb n x)) (mem? n l)
  where
    pick : (eqb n x ≡ true) ⊎ (eqb n x ≡ false) → (n ∈ l) ⊎ (n ∈ l → ⊥) → (n ∈ (x ∷ l)) ⊎ (n ∈ (x ∷ l) → ⊥)
    pick (inl e) k = inl (Memᴰ.head (eqb-true n x e))
    pick (inr e) (inl i) = inl (Memᴰ.tail i)
    pick (inr e) (inr h) = inr (λ i. either (Memᴰ.cases_cons i) (eqb-false n x e) h)

-- of two sublists of a list with no duplicates, the one with fewer elements is a sublist of the other
pub sub_both : (l u v : List ℕ) → Nodup l → u ⊑ l → v ⊑ l → u ⊆ v → u ⊑ v
sub_both [] u v d a b f = rw (Sublistᴰ.eq-nil a, Sublistᴰ.eq-nil b) Sublistᴰ.slnil
sub_both (x ∷ l) u v d a b f = pick (Sublistᴰ.cases_cons a) (Sublistᴰ.cases_cons b) (λ u v. sub_both l u v (Nodup-cons.0 d).1)
  where
    fresh : {w : List ℕ} → w ⊑ l → x ∈ w → ⊥
    fresh t i = (Nodup-cons.0 d).0 ∣ ⊑-⊆ t x i ∣₁

    narrow : {w z : List ℕ} → w ⊑ l → w ⊆ (x ∷ z) → w ⊆ z
    narrow {w} {z} t g n i = either (Memᴰ.cases_cons (g n i)) (λ e. absurd (fresh t (Memᴰ.cast (sym e) i))) (λ j. j)

    pick : (u ⊑ l) ⊎ ((r : List ℕ) × (u ≡ x ∷ r) × (r ⊑ l)) → (v ⊑ l) ⊎ ((r : List ℕ) × (v ≡ x ∷ r) × (r ⊑ l)) → ((u v : List ℕ) → u ⊑ l → v ⊑ l → u ⊆ v → u ⊑ v) → u ⊑ v
    pick (inl p) (inl q) k = k u v p q f
    pick (inl p) (inr q) k = rw q.1 (Sublistᴰ.cons (k u q.0 p q.2 (narrow p (λ n i. rw q.1 at (f n i)))))
    pick (inr p) (inl q) k = absurd (fresh q (f x (rw p.1 (Memᴰ.head refl))))
    pick (inr p) (inr q) k = rw (p.1, q.1) (Sublistᴰ.cons-cons refl (k p.0 q.0 p.2 q.2 (narrow p.2 (λ n i. rw q.1 at (f n (rw p.1 (Memᴰ.tail i)))))))

-- pairs in a list without duplicates
pub pair_trans : (x y z : ℕ) (l : List ℕ) → Nodup l → (x ∷ y ∷ []) ⊑ l → (y ∷ z ∷ []) ⊑ l → (x ∷ z ∷ []) ⊑ l
pair_trans x y z [] d p q = absurd (Memᴰ.not-nil (⊑-⊆ p x (Memᴰ.head refl)))
pair_trans x y z (u ∷ l) d p q = pick (Sublistᴰ.cases_cons-cons p) (Sublistᴰ.cases_cons-cons q) (pair_trans x y z l (Nodup-cons.0 d).1)
  where
    fresh-y : y ≡ u → y ∈ l → ⊥
    fresh-y e i = (Nodup-cons.0 d).0 ∣ Memᴰ.cast (sym e) i ∣₁

    pick : ((x ∷ y ∷ []) ⊑ l) ⊎ ((x ≡ u) × ((y ∷ []) ⊑ l)) → ((y ∷ z ∷ []) ⊑ l) ⊎ ((y ≡ u) × ((z ∷ []) ⊑ l)) → ((x ∷ y ∷ []) ⊑ l → (y ∷ z ∷ []) ⊑ l → (x ∷ z ∷ []) ⊑ l) → (x ∷ z ∷ []) ⊑ (u ∷ l)
    pick (inl a) (inl b) k = Sublistᴰ.cons (k a b)
    pick (inl a) (inr b) k = absurd (fresh-y b.0 (⊑-⊆ a y (Memᴰ.tail (Memᴰ.head refl))))
    pick (inr a) (inl b) k = Sublistᴰ.cons-cons a.0 (∈-⊑ z l (⊑-⊆ b z (Memᴰ.tail (Memᴰ.head refl))))
    pick (inr a) (inr b) k = absurd (fresh-y b.0 (⊑-⊆ a.1 y (Memᴰ.head refl)))

pub pair_self : (x : ℕ) (l : List ℕ) → Nodup l → (x ∷ x ∷ []) ⊑ l → ⊥
pair_self x [] d p = Memᴰ.not-nil (⊑-⊆ p x (Memᴰ.head refl))
pair_self x (u ∷ l) d p = either (Sublistᴰ.cases_cons-cons p) (pair_self x l (Nodup-cons.0 d).1) (λ a. (Nodup-cons.0 d).0 ∣ Memᴰ.cast (sym a.0) (⊑-⊆ a.1 x (Memᴰ.head refl)) ∣₁)

-- an ordered sublist of a list without duplicates, by what holds of its elements
pub only : (P : ℕ → Type 0) {w l : List ℕ} → w ⊑ l → Nodup l → ((e : ℕ) → e ∈ w → P e) → ((e : ℕ) → e ∈ l → P e → e ∈ w) → Only P l w
only P Sublistᴰ.slnil d f g = ends
only P (Sublistᴰ.cons {a} {l₁} {l₂} s) d f g =
    drops (λ p. (Nodup-cons.0 d).0 ∣ ⊑-⊆ s a (g a (Memᴰ.head refl) p) ∣₁) (only P s (Nodup-cons.0 d).1 f (λ e i p. g e (Memᴰ.tail i) p))
only P (Sublistᴰ.cons-cons {a} {b} {l₁} {l₂} q s) d f g =
    subst (λ z. Only P (b ∷ l₂) (z ∷ l₁)) (sym q) (keeps (subst P q (f a (Memᴰ.head refl))) (only P s (Nodup-cons.0 d).1 (λ e i. f e (Memᴰ.tail i)) behind))
  where
    behind : (e : ℕ) → e ∈ l₂ → P e → e ∈ l₁
    behind e i p = either (Memᴰ.cases_cons (g e (Memᴰ.tail i) p)) (λ r. absurd ((Nodup-cons.0 d).0 ∣ Memᴰ.cast (sym (r ∙ q)) i ∣₁)) (λ h. h)

-- `Only` decides the list
pub only_same : {P : ℕ → Type 0} {l v w : List ℕ} → Only P l v → Only P l w → v ≡ w
only_same ends ends = refl
only_same (keeps {e} p o) (keeps q o') = ap (λ z. e ∷ z) (only_same o o')
only_same (keeps p o) (drops n o') = absurd (n p)
only_same (drops n o) (keeps p o') = absurd (n p)
only_same (drops n o) (drops m o') = only_same o o'
