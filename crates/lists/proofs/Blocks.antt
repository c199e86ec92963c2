-- Blocks in a row: what stands in them, and in which order.
use Prim.Native.Nat.{ℕ}
use mathlib.Core.Path.{◌∙◌, ◌≡◌, refl, sym}
use mathlib.Core.Logic.{◌⊎◌, inl, inr, ∥∥₁_elim}
use mathlib.Core.HLevel.{⊥_prop}
use mathlib.Core.List.Memᴰ
use mathlib.Core.List.{List, Nodup}
use mathlib.Core.List.Nodup
use mathlib.Core.List.Sublistᴰ
use mathlib.Core.List.{[], ◌++◌, ◌∷◌}
use mathlib.Core.List.{append_assoc, Nodup-cons, Nodup-nil}
use lib.Dec.{eqb}
use borrow.Author.Tests.{eqb-false, eqb-true}
use Rattle.lists.proofs.Cases.{cases, either}
use Rattle.lists.proofs.Sublists.{nodup_apart, parts, ∈-⊑, ⊑-left, ⊑-⊆}
use Rattle.lists.specs.Lists.{◌∈◌, ◌⊑◌, flat}
use Rattle.lists.specs.Arranged.{Apart, behind, flat_back}

pub flat-++ : (f : ℕ → List ℕ) (a b : List ℕ) → flat f (a ++ b) ≡ flat f a ++ flat f b
flat-++ f [] b = refl
flat-++ f (t ∷ a) b = rw (flat-++ f a b) (sym (append_assoc (f t) (flat f a) (flat f b)))

pub flat_same : (f g : ℕ → List ℕ) (l : List ℕ) → ((t : ℕ) → t ∈ l → f t ≡ g t) → flat f l ≡ flat g l
flat_same f g [] h = refl
flat_same f g (t ∷ l) h = rw (h t (Memᴰ.head refl), flat_same f g l (λ s i. h s (Memᴰ.tail i)))

pub flat_in : (f : ℕ → List ℕ) (t e : ℕ) (l : List ℕ) → t ∈ l → e ∈ f t → e ∈ flat f l
flat_in f t e [] x'' i = elim x'' [ ]
flat_in f t e (s ∷ l) (Memᴰ.head q) i = Memᴰ.append_left (flat f l) (rw q at i)
flat_in f t e (s ∷ l) (Memᴰ.tail j) i = Memᴰ.append_right (f s) (flat_in f t e l j i)

pub flat_from : (f : ℕ → List ℕ) (e : ℕ) (l : List ℕ) → e ∈ flat f l → (t : ℕ) × (t ∈ l) × (e ∈ f t)
flat_from f e [] i = absurd (Memᴰ.not-nil i)
flat_from f e (s ∷ l) i = pick (Memᴰ.append_cases (f s) i) (flat_from f e l)
  where
    pick : (e ∈ f s) ⊎ (e ∈ flat f l) → (e ∈ flat f l → (t : ℕ) × (t ∈ l) × (e ∈ f t)) → (t : ℕ) × (t ∈ (s ∷ l)) × (e ∈ f t)
    pick (inl j) k = (s, Memᴰ.head refl, j)
    pick (inr j) k = let h = k j in (h.0, Memᴰ.tail h.1, h.2)

pub flat_nodup : (f : ℕ → List ℕ) (l : List ℕ) → ((t : ℕ) → t ∈ l → (e : ℕ) × (e ∈ f t)) → Nodup (flat f l) → Nodup l
flat_nodup f [] h d = Nodup-nil
flat_nodup f (t ∷ l) h d =
    let e = h t (Memᴰ.head refl) in
    Nodup-cons.1 (λ i. ∥∥₁_elim i ⊥_prop (λ j. nodup_apart (f t) (flat f l) d e.0 e.1 (flat_in f t e.0 l j e.1)), flat_nodup f l (λ s i. h s (Memᴰ.tail i)) (Nodup.of_append_right (f t) d))

-- two elements of two blocks stand as the blocks do
pub flat_pair : (f : ℕ → List ℕ) (l : List ℕ) (s t x z : ℕ) → Nodup (flat f l) → s ∈ l → t ∈ l → (s ≡ t → ⊥) → x ∈ f s → z ∈ f t → (x ∷ z ∷ []) ⊑ flat f l → (s ∷ t ∷ []) ⊑ l
flat_pair f [] s t x z d i j n p q w = absurd (Memᴰ.not-nil i)
flat_pair f (u ∷ l) s t x z d i j n p q w =
    let c = parts (f u) (flat f l) w in
    by c.one c.two c.whole c.fst c.snd (flat_pair f l s t x z (Nodup.of_append_right (f u) d))
  where
    in-u : (v e : ℕ) → v ∈ (u ∷ l) → e ∈ f v → e ∈ f u → v ≡ u
    in-u v e h a b = either (Memᴰ.cases_cons h) (λ k. k) (λ k. absurd (nodup_apart (f u) (flat f l) d e b (flat_in f v e l k a)))

    in-l : (v e : ℕ) → v ∈ (u ∷ l) → e ∈ f v → e ∈ flat f l → v ∈ l
    in-l v e h a b = either (Memᴰ.cases_cons h) (λ k. absurd (nodup_apart (f u) (flat f l) d e (rw k at a) b)) (λ k. k)

    by : (a b : List ℕ) → (x ∷ z ∷ []) ≡ a ++ b → a ⊑ f u → b ⊑ flat f l → (s ∈ l → t ∈ l → (s ≡ t → ⊥) → x ∈ f s → z ∈ f t → (x ∷ z ∷ []) ⊑ flat f l → (s ∷ t ∷ []) ⊑ l) → (s ∷ t ∷ []) ⊑ (u ∷ l)
    by [] b e g h k =
        let w' : (x ∷ z ∷ []) ⊑ flat f l = rw e h in
        Sublistᴰ.cons (k (in-l s x i p (⊑-⊆ w' x (Memᴰ.head refl))) (in-l t z j q (⊑-⊆ w' z (Memᴰ.tail (Memᴰ.head refl)))) n p q w')
    by (a1 ∷ []) b e g h k =
        let e1 : x ≡ a1 = cc in
        let e2 : (z ∷ []) ≡ b = cc in
        let su : s ≡ u = in-u s x i p (⊑-⊆ g x (Memᴰ.head e1)) in
        let zl : z ∈ flat f l = ⊑-⊆ h z (rw (← e2) (Memᴰ.head refl)) in
        Sublistᴰ.cons-cons su (∈-⊑ t l (in-l t z j q zl))
    by (a1 ∷ a2 ∷ a) b e g h k =
        let e1 : x ≡ a1 = cc in
        let e2 : z ≡ a2 = cc in
        let su : s ≡ u = in-u s x i p (⊑-⊆ g x (Memᴰ.head e1)) in
        let tu : t ≡ u = in-u t z j q (⊑-⊆ g z (Memᴰ.tail (Memᴰ.head e2))) in
        absurd (n (su ∙ sym tu))

-- an element is of one block
pub same_block : (f : ℕ → List ℕ) (l : List ℕ) → Nodup (flat f l) → (s t e : ℕ) → s ∈ l → t ∈ l → e ∈ f s → e ∈ f t → s ≡ t
same_block f [] d s t e i j p q = absurd (Memᴰ.not-nil i)
same_block f (u ∷ l) d s t e i j p q = pick (Memᴰ.cases_cons i) (Memᴰ.cases_cons j) (same_block f l (Nodup.of_append_right (f u) d) s t e)
  where
    pick : (s ≡ u) ⊎ (s ∈ l) → (t ≡ u) ⊎ (t ∈ l) → (s ∈ l → t ∈ l → e ∈ f s → e ∈ f t → s ≡ t) → s ≡ t
    pick (inl a) (inl b) k = a ∙ sym b
    pick (inl a) (inr b) k = absurd (nodup_apart (f u) (flat f l) d e (rw a at p) (flat_in f t e l b q))
    pick (inr a) (inl b) k = absurd (nodup_apart (f u) (flat f l) d e (rw b at q) (flat_in f s e l a p))
    pick (inr a) (inr b) k = k a b p q

pub flat_back_in : (hold : ℕ → List ℕ) (x t : ℕ) (l : List ℕ) → x ∈ l → t ∈ hold x → t ∈ flat_back hold l
flat_back_in hold x t [] x3 i = elim x3 [ ]
flat_back_in hold x t (z ∷ l) (Memᴰ.head q) i = Memᴰ.append_right (flat_back hold l) (rw q at i)
flat_back_in hold x t (z ∷ l) (Memᴰ.tail j) i = Memᴰ.append_left (hold z) (flat_back_in hold x t l j i)

pub flat_back_from : (hold : ℕ → List ℕ) (t : ℕ) (l : List ℕ) → t ∈ flat_back hold l → (x : ℕ) × (x ∈ l) × (t ∈ hold x)
flat_back_from hold t [] i = absurd (Memᴰ.not-nil i)
flat_back_from hold t (z ∷ l) i = pick (Memᴰ.append_cases (flat_back hold l) i) (flat_back_from hold t l)
  where
    pick : (t ∈ flat_back hold l) ⊎ (t ∈ hold z) → (t ∈ flat_back hold l → (x : ℕ) × (x ∈ l) × (t ∈ hold x)) → (x : ℕ) × (x ∈ (z ∷ l)) × (t ∈ hold x)
    pick (inl j) k = let h = k j in (h.0, Memᴰ.tail h.1, h.2)
    pick (inr j) k = (z, Memᴰ.head refl, j)

pub flat_back_same : (f g : ℕ → List ℕ) (l : List ℕ) → ((x : ℕ) → x ∈ l → f x ≡ g x) → flat_back f l ≡ flat_back g l
flat_back_same f g [] h = refl
flat_back_same f g (x ∷ l) h = rw (h x (Memᴰ.head refl), flat_back_same f g l (λ z i. h z (Memᴰ.tail i)))

pub flat_back-one : (hold : ℕ → List ℕ) (l : List ℕ) → Nodup (flat_back hold l) → (x z t : ℕ) → x ∈ l → z ∈ l → t ∈ hold x → t ∈ hold z → x ≡ z
flat_back-one hold [] d x z t i j p q = absurd (Memᴰ.not-nil i)
flat_back-one hold (u ∷ l) d x z t i j p q = pick (Memᴰ.cases_cons i) (Memᴰ.cases_cons j) (flat_back-one hold l (Nodup.of_append_left (hold u) d) x z t)
  where
    apart : Apart (flat_back hold l) (hold u)
    apart = nodup_apart (flat_back hold l) (hold u) d

    pick : (x ≡ u) ⊎ (x ∈ l) → (z ≡ u) ⊎ (z ∈ l) → (x ∈ l → z ∈ l → t ∈ hold x → t ∈ hold z → x ≡ z) → x ≡ z
    pick (inl a) (inl b) k = a ∙ sym b
    pick (inl a) (inr b) k = absurd (apart t (flat_back_in hold z t l b q) (rw a at p))
    pick (inr a) (inl b) k = absurd (apart t (flat_back_in hold x t l a p) (rw b at q))
    pick (inr a) (inr b) k = k a b p q

pub flat_back_nodup : (hold : ℕ → List ℕ) (x : ℕ) (l : List ℕ) → x ∈ l → Nodup (flat_back hold l) → Nodup (hold x)
flat_back_nodup hold x [] x3 d = elim x3 [ ]
flat_back_nodup hold x (z ∷ l) (Memᴰ.head q) d = rw q (Nodup.of_append_right (flat_back hold l) d)
flat_back_nodup hold x (z ∷ l) (Memᴰ.tail j) d = flat_back_nodup hold x l j (Nodup.of_append_left (hold z) d)

-- the blocks behind r, and then r's, stand in the whole row in that order
pub flat_back-behind : (hold : ℕ → List ℕ) (r : ℕ) (l : List ℕ) → r ∈ l → (flat_back hold (behind r l) ++ hold r) ⊑ flat_back hold l
unfolding behind
flat_back-behind hold r [] i = elim i [ ]
flat_back-behind hold r (x ∷ l) i =
    cases (eqb x r)
    (λ e. rw (e, eqb-true x r e) (Sublistᴰ.refl (flat_back hold l ++ hold r)))
    (λ e. rw e (Sublistᴰ.trans (flat_back-behind hold r l (either (Memᴰ.cases_cons i) (λ q. absurd (eqb-false x r e (sym q))) (λ j. j))) (⊑-left (flat_back hold l) (hold x))))
