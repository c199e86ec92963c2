-- Membership as a test, and the elements that pass a test.
use Prim.Native.Nat.{ℕ}
use mathlib.Core.Bool.{Bool, ◌&&◌, ◌||◌, cond, false, false≢true, or_assoc, true}
use mathlib.Core.Path.{◌∙◌, ◌≡◌, ap, refl, sym}
use mathlib.Core.List.Memᴰ
use mathlib.Core.List.Sublistᴰ
use mathlib.Core.List.{List, Nodup, []}
use mathlib.Core.List.{◌++◌, ◌∷◌, Nodup-cons}
use lib.Dec.{eqb}
use borrow.Author.Tests.{eq-eqb, eqb-true, ne_eqb}
use Rattle.lists.proofs.Cases.{cases, either, or_cases, or_left, or_right}
use Rattle.lists.proofs.Sublists.{⊑-⊆}
use Rattle.lists.specs.Lists.{◌∈◌, ◌⊑◌, keep}
use Rattle.lists.specs.Arranged.{flat_back, member}

pub member-++ : (u : ℕ) (a b : List ℕ) → member u (a ++ b) ≡ (member u a || member u b)
member-++ u [] b = refl
member-++ u (x ∷ a) b = rw (member-++ u a b) (sym (or_assoc (eqb u x) (member u a) (member u b)))

pub member_in : (u : ℕ) (l : List ℕ) → member u l ≡ true → u ∈ l
member_in u [] e = absurd (false≢true e)
member_in u (x ∷ l) e = either (or_cases (eqb u x) (member u l) e) (λ q. Memᴰ.head (eqb-true u x q)) (λ q. Memᴰ.tail (member_in u l q))

pub in_member : (u : ℕ) (l : List ℕ) → u ∈ l → member u l ≡ true
in_member u [] x' = elim x' [ ]
in_member u (x ∷ l) (Memᴰ.head q) = or_left (eqb u x) (member u l) (eq-eqb u x q)
in_member u (x ∷ l) (Memᴰ.tail i) = or_right (eqb u x) (member u l) (in_member u l i)

pub keep_in : (p q : ℕ → Bool) (l : List ℕ) → ((x : ℕ) → x ∈ l → p x ≡ q x) → keep p l ≡ keep q l
keep_in p q [] h = refl
keep_in p q (x ∷ l) h = rw (h x (Memᴰ.head refl), keep_in p q l (λ z i. h z (Memᴰ.tail i)))

pub keep_all : (p : ℕ → Bool) (l : List ℕ) → ((x : ℕ) → x ∈ l → p x ≡ true) → keep p l ≡ l
keep_all p [] h = refl
keep_all p (x ∷ l) h = rw (h x (Memᴰ.head refl), keep_all p l (λ z i. h z (Memᴰ.tail i)))

pub keep-++ : (p : ℕ → Bool) (a b : List ℕ) → keep p (a ++ b) ≡ keep p a ++ keep p b
keep-++ p [] b = refl
keep-++ p (x ∷ a) b = cases (p x) (λ e. rw (e, keep-++ p a b)) (λ e. rw (e, keep-++ p a b))

pub keep_both : (p q : ℕ → Bool) (l : List ℕ) → keep (λ x. p x && q x) l ≡ keep q (keep p l)
keep_both p q [] = refl
keep_both p q (x ∷ l) = cases (p x) (λ e. rw (e, keep_both p q l)) (λ e. rw (e, keep_both p q l))

pub keep-flat_back : (p : ℕ → Bool) (f : ℕ → List ℕ) (l : List ℕ) → keep p (flat_back f l) ≡ flat_back (λ x. keep p (f x)) l
keep-flat_back p f [] = refl
keep-flat_back p f (x ∷ l) = rw (keep-++, keep-flat_back p f l)

pub keep-⊑ : (p : ℕ → Bool) (l : List ℕ) → keep p l ⊑ l
keep-⊑ p [] = Sublistᴰ.slnil
keep-⊑ p (x ∷ l) = cases (p x) (λ e. rw e (Sublistᴰ.cons-cons refl (keep-⊑ p l))) (λ e. rw e (Sublistᴰ.cons (keep-⊑ p l)))

-- an ordered sublist of a list without duplicates is what is left of that list when its own elements stay
pub keep_sublist : {w l : List ℕ} → w ⊑ l → Nodup l → w ≡ keep (λ u. member u w) l
keep_sublist Sublistᴰ.slnil d = refl
keep_sublist (Sublistᴰ.cons {a} {l₁ = w} {l₂ = l} s) d =
    let out : member a w ≡ false = cases (member a w) (λ e. absurd ((Nodup-cons.0 d).0 ∣ ⊑-⊆ s a (member_in a w e) ∣₁)) (λ e. e) in
    keep_sublist s (Nodup-cons.0 d).1 ∙ ap (λ b. cond b (a ∷ keep (λ u. member u w) l) (keep (λ u. member u w) l)) (sym out)
keep_sublist (Sublistᴰ.cons-cons {a} {b} {l₁ = w} {l₂ = l} q s) d =
    let inside : member b (a ∷ w) ≡ true = or_left (eqb b a) (member b w) (eq-eqb b a (sym q)) in
    let rest : keep (λ u. member u (a ∷ w)) l ≡ keep (λ u. member u w) l = keep_in (λ u. member u (a ∷ w)) (λ u. member u w) l (λ u i. ap (λ t. t || member u w) (ne_eqb u a (λ e. (Nodup-cons.0 d).0 ∣ Memᴰ.cast (sym (e ∙ q)) i ∣₁))) in
    ap (λ t. a ∷ t) (keep_sublist s (Nodup-cons.0 d).1 ∙ sym rest) ∙ ap (λ t. t ∷ keep (λ u. member u (a ∷ w)) l) q ∙ ap (λ t. cond t (b ∷ keep (λ u. member u (a ∷ w)) l) (keep (λ u. member u (a ∷ w)) l)) (sym inside)
