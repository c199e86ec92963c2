-- A list stands in an order, in its order, exactly if its places rise. Over any first place k, so that the order is taken apart from its front.
use Prim.Native.Nat.{ℕ, suc, ◌+◌, ◌<◌, ◌≤◌}
use mathlib.Core.Bool.{true, false, false≢true}
use mathlib.Core.Path.{◌≡◌, refl, sym, ap, ◌∙◌}
use mathlib.Core.List.Memᴰ
use mathlib.Core.List.{List, [], ◌∷◌, Nodup, Nodup-cons}
use mathlib.Core.List.Sublistᴰ
use native.Mathlib.Numerals.{add-one}
use native.Mathlib.Omega.{arith}
use lib.Dec.{eqb, ltb}
use lib.ListN.{length, drop, get_or, drop_of_length-le}
use lib.Seq.{drop-cons}
use borrow.Author.Tests.{ltb-true, lt-ltb, le-ltb, eqb-true, eqb-false, ne_eqb}
use Rattle.lists.specs.Lists.{◌∈◌, ◌⊑◌}
use Rattle.lists.proofs.Cases.{cases, either, and-true}
use Rattle.lists.proofs.Sublists.{mem?, ⊑-⊆}
use Rattle.orderfile.specs.Test.{place_from, rises}

-- by places that are the same
pub rises_same : (p q : ℕ → ℕ) (last : ℕ) (l : List ℕ) → ((u : ℕ) → p u ≡ q u) → rises p last l ≡ rises q last l
unfolding rises
rises_same p q last [] h = refl
rises_same p q last (u ∷ l) h = rw (h u, rises_same p q (q u) l h)

-- along a list, from its place i on
module _ (p : ℕ → ℕ) (last : ℕ) (l : List ℕ) (i : ℕ) where
  module _ (h : i < length l) where
    front : drop i l ≡ get_or l i 0 ∷ drop (i + 1) l
    front = drop-cons l i 0 h ∙ ap (λ k. get_or l i 0 ∷ drop k l) (sym (add-one i))

    pub rise-on : last < p (get_or l i 0) → rises p last (drop i l) ≡ rises p (p (get_or l i 0)) (drop (i + 1) l)
    unfolding rises
    rise-on k = rw (front, lt-ltb last (p (get_or l i 0)) k)

    pub rise-stop : p (get_or l i 0) ≤ last → rises p last (drop i l) ≡ false
    unfolding rises
    rise-stop k = rw (front, le-ltb last (p (get_or l i 0)) k)

  pub rise-end : length l ≤ i → rises p last (drop i l) ≡ true
  unfolding rises
  rise-end h = rw (drop_of_length-le l {i = i} h)

-- a place is 0 or not before the first; it is 0 exactly if the number is not there
pub absent : (k : ℕ) (ns : List ℕ) (u : ℕ) → (u ∈ ns → ⊥) → place_from k ns u ≡ 0
unfolding place_from
absent k [] u h = refl
absent k (n ∷ ns) u h = rw (ne_eqb u n (λ e. h (Memᴰ.head e)), absent (suc k) ns u (λ i. h (Memᴰ.tail i)))

pub present : (k : ℕ) (ns : List ℕ) (u : ℕ) → 0 < k → u ∈ ns → k ≤ place_from k ns u
unfolding place_from
present k [] u h i = elim i [ ]
present k (n ∷ ns) u h i =
    cases (eqb u n)
    (λ e. rw e (omega arith))
    (λ e. rw e (let m = present (suc k) ns u (omega arith) (there e i) in omega arith))
  where
    there : eqb u n ≡ false → u ∈ (n ∷ ns) → u ∈ ns
    there e (Memᴰ.head q) = absurd (eqb-false u n e q)
    there e (Memᴰ.tail j) = j

-- past the first number of an order its place does not matter: k or 0, it is not above `last`
module _ (k n : ℕ) (ns : List ℕ) (h : n ∈ ns → ⊥) where
  another : (last u : ℕ) (l : List ℕ) → ((m : ℕ) → k ≤ m → rises (place_from k (n ∷ ns)) m l ≡ rises (place_from (suc k) ns) m l)
      → eqb u n ≡ false → rises (place_from k (n ∷ ns)) last (u ∷ l) ≡ rises (place_from (suc k) ns) last (u ∷ l)
  unfolding rises place_from
  another last u l rest e = cases (ltb last p) (λ q. rw (e, q) (rest p (above (ltb-true last p q)))) (λ q. rw (e, q))
    where
      p : ℕ
      p = place_from (suc k) ns u

      above : last < p → k ≤ p
      above g = either (mem? u ns) (λ i. let m = present (suc k) ns u (omega arith) i in omega arith) (λ i. let m = absent (suc k) ns u i in absurd (omega arith))

  skip_first : (last : ℕ) (l : List ℕ) → k ≤ last → rises (place_from k (n ∷ ns)) last l ≡ rises (place_from (suc k) ns) last l
  unfolding rises place_from
  skip_first last [] g = refl
  skip_first last (u ∷ l) g =
      cases (eqb u n)
      (λ e. rw (e, le-ltb last k g, absent (suc k) ns u (λ i. h (Memᴰ.cast (sym (eqb-true u n e)) i)), le-ltb last 0 (omega arith)))
      (another last u l (λ m. skip_first m l))

pub rising_sub : (k : ℕ) (ns : List ℕ) (last : ℕ) (l : List ℕ) → Nodup ns → last < k → rises (place_from k ns) last l ≡ true → l ⊑ ns
unfolding rises place_from
rising_sub k ns last [] d h e = Sublistᴰ.nil-sublist ns
rising_sub k [] last (u ∷ l) d h e = absurd (false≢true (rw (le-ltb last 0 (omega arith)) at e))
rising_sub k (n ∷ ns) last (u ∷ l) d h e =
    let out : n ∈ ns → ⊥ = λ i. (Nodup-cons.0 d).0 ∣ i ∣₁ in
    let rest = (Nodup-cons.0 d).1 in
    cases (eqb u n)
    (λ q.
    let r : rises (place_from k (n ∷ ns)) k l ≡ true = (and-true (ltb last k) _ (rw q at e)).1 in
    Sublistᴰ.cons-cons (eqb-true u n q) (rising_sub (suc k) ns k l rest (omega arith) (sym (skip_first k n ns out k l (omega arith)) ∙ r)))
    (λ q. Sublistᴰ.cons (rising_sub (suc k) ns last (u ∷ l) rest (omega arith) (sym (another k n ns out last u l (λ m. skip_first k n ns out m l) q) ∙ e)))

pub sub_rising : (k : ℕ) (ns : List ℕ) (last : ℕ) (l : List ℕ) → Nodup ns → last < k → l ⊑ ns → rises (place_from k ns) last l ≡ true
unfolding rises place_from
sub_rising k ns last [] d h s = refl
sub_rising k [] last (u ∷ l) d h s = absurd (Memᴰ.not-nil (⊑-⊆ s u (Memᴰ.head refl)))
sub_rising k (n ∷ ns) last (u ∷ l) d h s =
    let out : n ∈ ns → ⊥ = λ i. (Nodup-cons.0 d).0 ∣ i ∣₁ in
    let rest = (Nodup-cons.0 d).1 in
    cases (eqb u n)
    (λ q.
    let t : l ⊑ ns = either (Sublistᴰ.cases_cons-cons s) (λ t. absurd (out (Memᴰ.cast (sym (eqb-true u n q)) (⊑-⊆ t u (Memᴰ.head refl))))) (λ t. t.1) in
    rw (q, lt-ltb last k h) (skip_first k n ns out k l (omega arith) ∙ sub_rising (suc k) ns k l rest (omega arith) t))
    (λ q.
    let t : (u ∷ l) ⊑ ns = either (Sublistᴰ.cases_cons-cons s) (λ t. t) (λ t. absurd (eqb-false u n q t.0)) in
    another k n ns out last u l (λ m. skip_first k n ns out m l) q ∙ sub_rising (suc k) ns last (u ∷ l) rest (omega arith) t)
