-- The elements of a list by other names, where no two of them get one name.
use Prim.Native.Nat.{ℕ}
use mathlib.Core.Bool.{Bool}
use mathlib.Core.Path.{◌∙◌, ◌≡◌, ap, refl, sym}
use mathlib.Core.List.Memᴰ
use mathlib.Core.List.{List, [], ◌++◌, ◌∷◌}
use lib.Dec.{eqb}
use borrow.Author.Tests.{eq-eqb, eqb-false, eqb-true, ne_eqb}
use Rattle.lists.specs.Lists.{◌∈◌, keep, mapped}
use Rattle.lists.specs.Arranged.{behind, flat_back, insert_before, remove}
use Rattle.lists.proofs.Cases.{cases}

pub mapped_in : (f : ℕ → ℕ) (l : List ℕ) (x : ℕ) → x ∈ l → f x ∈ mapped f l
mapped_in f [] x x3 = elim x3 [ ]
mapped_in f (z ∷ l) x (Memᴰ.head e) = Memᴰ.head (ap f e)
mapped_in f (z ∷ l) x (Memᴰ.tail i) = Memᴰ.tail (mapped_in f l x i)

pub in_mapped : (f : ℕ → ℕ) (l : List ℕ) (n : ℕ) → n ∈ mapped f l → (x : ℕ) × (x ∈ l) × (n ≡ f x)
in_mapped f [] n i = absurd (Memᴰ.not-nil i)
in_mapped f (z ∷ l) n (Memᴰ.head e) = (z, Memᴰ.head refl, e)
in_mapped f (z ∷ l) n (Memᴰ.tail i) = let p = in_mapped f l n i in (p.0, Memᴰ.tail p.1, p.2)

pub mapped_same : (f g : ℕ → ℕ) (l : List ℕ) → ((x : ℕ) → x ∈ l → f x ≡ g x) → mapped f l ≡ mapped g l
mapped_same f g [] h = refl
mapped_same f g (z ∷ l) h = λ i. h z (Memᴰ.head refl) i ∷ mapped_same f g l (λ x j. h x (Memᴰ.tail j)) i

pub mapped-++ : (f : ℕ → ℕ) (a b : List ℕ) → mapped f (a ++ b) ≡ mapped f a ++ mapped f b
mapped-++ f [] b = refl
mapped-++ f (x ∷ a) b = ap (◌∷◌ (f x)) (mapped-++ f a b)

-- a test of the names
pub mapped-keep : (f : ℕ → ℕ) (q : ℕ → Bool) (l : List ℕ) → mapped f (keep (λ x. q (f x)) l) ≡ keep q (mapped f l)
mapped-keep f q [] = refl
mapped-keep f q (x ∷ l) = cases (q (f x)) (λ e. rw (e, mapped-keep f q l)) (λ e. rw (e, mapped-keep f q l))

-- two names are the same exactly if they are of one element
pub named_test : (f : ℕ → ℕ) (x p : ℕ) → (f x ≡ f p → x ≡ p) → eqb (f x) (f p) ≡ eqb x p
named_test f x p h = cases (eqb x p) (λ e. eq-eqb (f x) (f p) (ap f (eqb-true x p e)) ∙ sym e) (λ e. ne_eqb (f x) (f p) (λ q. eqb-false x p e (h q)) ∙ sym e)

module _ (f : ℕ → ℕ) (p : ℕ) where
  pub mapped-insert : (c : ℕ) (l : List ℕ) → ((x : ℕ) → x ∈ l → f x ≡ f p → x ≡ p) → mapped f (insert_before p c l) ≡ insert_before (f p) (f c) (mapped f l)
  unfolding insert_before
  mapped-insert c [] h = refl
  mapped-insert c (z ∷ l) h =
      rw (named_test f z p (h z (Memᴰ.head refl)))
      (cases (eqb z p) (λ e. rw e) (λ e. rw (e, mapped-insert c l (λ x i. h x (Memᴰ.tail i)))))

  pub mapped-remove : (l : List ℕ) → ((x : ℕ) → x ∈ l → f x ≡ f p → x ≡ p) → mapped f (remove p l) ≡ remove (f p) (mapped f l)
  unfolding remove
  mapped-remove [] h = refl
  mapped-remove (z ∷ l) h =
      rw (named_test f z p (h z (Memᴰ.head refl)))
      (cases (eqb z p) (λ e. rw e) (λ e. rw (e, mapped-remove l (λ x i. h x (Memᴰ.tail i)))))

  pub mapped-behind : (l : List ℕ) → ((x : ℕ) → x ∈ l → f x ≡ f p → x ≡ p) → behind (f p) (mapped f l) ≡ mapped f (behind p l)
  unfolding behind
  mapped-behind [] h = refl
  mapped-behind (z ∷ l) h =
      rw (named_test f z p (h z (Memᴰ.head refl)))
      (cases (eqb z p) (λ e. rw e) (λ e. rw (e, mapped-behind l (λ x i. h x (Memᴰ.tail i)))))

pub flat_back-mapped : (hold : ℕ → List ℕ) (f : ℕ → ℕ) (l : List ℕ) → flat_back hold (mapped f l) ≡ flat_back (λ x. hold (f x)) l
flat_back-mapped hold f [] = refl
flat_back-mapped hold f (z ∷ l) = rw (flat_back-mapped hold f l)
