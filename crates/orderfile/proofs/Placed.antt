-- The places of the first numbers of an order, put down one after the other; and why it ends where a number is too high or stands there twice.
use Prim.Native.Nat.{ℕ, suc, ◌+◌, ◌<◌, ◌≤◌}
use mathlib.Core.Bool.{true, false, cond, false≢true}
use mathlib.Core.Path.{◌≡◌, sym, ap, ◌∙◌}
use mathlib.Core.List.Memᴰ
use mathlib.Core.List.{List, [], ◌∷◌, ◌++◌, Nodup, Nodup-nil}
use native.Mathlib.Numerals.{add-one}
use native.Mathlib.Omega.{arith}
use lib.Dec.{eqb, ltb}
use lib.ListN.{length, take, drop, get_or, set, replicate, get_or-replicate, length-replicate, get_or-eq_default}
use lib.Seq.{take-suc, take_all, length-take-le, split_at, get_or-set_same, get_or-set_other}
use borrow.Author.Tests.{eqb-true, eqb-false, ltb-true, ltb-false, ne_eqb}
use Rattle.lists.specs.Lists.{◌∈◌}
use Rattle.lists.proofs.Cases.{cases, either}
use Rattle.lists.proofs.Sublists.{mem?, nodup_apart, nodup_more}
use Rattle.lists.proofs.Places.{get_or_in}
use Rattle.orderfile.specs.Test.{is_complete, place_from, place_in}
use Rattle.orderfile.specs.Checks.{PlacesOf, place_at}
use Rattle.orderfile.proofs.Complete.{complete, is-complete}
use Rattle.orderfile.proofs.Rises.{absent, present}

place-more : (k : ℕ) (l : List ℕ) (n u : ℕ) → (n ∈ l → ⊥) → place_from k (l ++ (n ∷ [])) u ≡ cond (eqb u n) (k + length l) (place_from k l u)
unfolding place_from
place-more k [] n u h = let e : k + 0 ≡ k = omega arith in rw e
place-more k (x ∷ l) n u h =
    let e : suc k + length l ≡ k + suc (length l) = omega arith in
    cases (eqb u x)
    (λ q. rw (q, ne_eqb u n (λ r. h (Memᴰ.head (sym r ∙ eqb-true u x q)))))
    (λ q. rw (q, place-more (suc k) l n u (λ i. h (Memᴰ.tail i)), e))

-- no number has a place yet
pub no_place : (n u : ℕ) → place_at (replicate n 0) u ≡ 0
no_place n u =
    cases (ltb u n)
    (λ e. get_or-replicate n u 0 0 (ltb-true u n e))
    (λ e. let h = ltb-false u n e in get_or-eq_default (replicate n 0) 0 (rw length-replicate h))

-- the first i numbers have their places, and so has no other
pub record Placed (taken : ℕ) (ns : List ℕ) (i : ℕ) (places : List ℕ) : Type 0 where
  pub low : (u : ℕ) → u ∈ take i ns → u < taken
  pub once : Nodup (take i ns)
  pub at : (u : ℕ) → place_at places u ≡ place_in (take i ns) u

-- where they are not complete no place is said
pub ends : {taken : ℕ} {ns places : List ℕ} → false ≡ is_complete taken ns → PlacesOf taken ns places false
ends e = record { is = e; each = λ q. absurd (false≢true q) }

module _ (taken : ℕ) (ns : List ℕ) where
  pub placed-none : (places : List ℕ) → ((u : ℕ) → place_at places u ≡ 0) → Placed taken ns 0 places
  unfolding place_from
  placed-none places h = record { low = λ u i. absurd (Memᴰ.not-nil i); once = Nodup-nil; at = h }

  -- n, one more number
  module _ (i : ℕ) (places : List ℕ) (p : Placed taken ns i places) (h : i < length ns) (n : ℕ) (is : n ≡ get_or ns i 0) where
    next : take (i + 1) ns ≡ take i ns ++ (n ∷ [])
    next = rw is (ap (λ k. take k ns) (add-one i) ∙ take-suc ns i 0 h)

    new : place_at places n ≡ 0 → n ∈ take i ns → ⊥
    new z j = let a = p.at n in let b = present 1 (take i ns) n (omega arith) j in omega arith

    pub placed-more : n < taken → taken ≤ length places → place_at places n ≡ 0 → Placed taken ns (i + 1) (set places n (i + 1))
    placed-more l m z = record { low = low; once = rw next (nodup_more (take i ns) n p.once (new z)); at = at }
      where
        low : (u : ℕ) → u ∈ take (i + 1) ns → u < taken
        low u j = either (Memᴰ.append_cases (take i ns) (rw next at j)) (p.low u) (λ e. let q = Memᴰ.eq_of_singleton e in omega arith)

        at : (u : ℕ) → place_at (set places n (i + 1)) u ≡ place_in (take (i + 1) ns) u
        at u =
            let e = ap (λ l. place_in l u) next ∙ place-more 1 (take i ns) n u (new z) in
            let k = length-take-le i ns (omega arith) in
            cases (eqb u n)
            (λ q.
            let here = get_or-set_same places n (i + 1) 0 (omega arith) in
            let place : place_in (take (i + 1) ns) u ≡ i + 1 = (rw q at e) ∙ omega arith in
            ap (place_at (set places n (i + 1))) (eqb-true u n q) ∙ here ∙ sym place)
            (λ q. get_or-set_other places n u (i + 1) 0 (eqb-false u n q) ∙ p.at u ∙ sym (rw q at e))

    -- it ends
    pub too-high : taken ≤ n → false ≡ is_complete taken ns
    too-high l = cases (is_complete taken ns) (λ e. let k = (complete taken ns e).low (get_or ns i 0) (get_or_in ns i 0 h) in absurd (omega arith)) sym

    pub twice : (place_at places n ≡ 0 → ⊥) → false ≡ is_complete taken ns
    twice z = cases (is_complete taken ns) (λ e. absurd (again (complete taken ns e).once)) sym
      where
        there : n ∈ take i ns
        there = either (mem? n (take i ns)) (λ j. j) (λ m. absurd (z (p.at n ∙ absent 1 (take i ns) n m)))

        again : Nodup ns → ⊥
        again d = nodup_apart (take i ns) (get_or ns i 0 ∷ drop (suc i) ns) (rw (split_at ns i 0 h) at d) n there (Memᴰ.head is)

  -- all of them
  pub placed-all : (i : ℕ) (places : List ℕ) → Placed taken ns i places → length ns ≡ taken → taken ≤ i → PlacesOf taken ns places true
  placed-all i places p l h =
      let e = take_all i ns (omega arith) in
      record { is = sym (is-complete taken ns (record { many = l; low = rw e at p.low; once = rw e at p.once })); each = λ q. rw e at p.at }
