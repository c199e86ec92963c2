-- What the test of completeness says: as many numbers as updates, each below their count, none twice; and so each update is there.
use Prim.Native.Nat.{ℕ, zero, suc, ◌<◌, ◌≤◌}
use mathlib.Core.Bool.{true, false, not, false≢true}
use mathlib.Core.Path.{◌≡◌, refl, sym, ap, ◌∙◌}
use mathlib.Core.Logic.{∥∥₁_elim}
use mathlib.Core.HLevel.{⊥_prop}
use mathlib.Core.List.Memᴰ
use mathlib.Core.List.{List, [], ◌∷◌, Nodup, Nodup-cons, Nodup-nil}
use native.Mathlib.Omega.{arith}
use lib.Dec.{eqb, ltb}
use lib.ListN.{length}
use borrow.Author.Tests.{ltb-true, lt-ltb, eqb-true, eqb-false, eq-eqb, not-true}
use Rattle.lists.specs.Lists.{◌∈◌}
use Rattle.lists.specs.Arranged.{member, remove}
use Rattle.lists.proofs.Cases.{cases, either, and-true}
use Rattle.lists.proofs.Keep.{member_in, in_member}
use Rattle.lists.proofs.Sublists.{mem?}
use Rattle.lists.proofs.Counts.{few_below}
use Rattle.lists.proofs.Places.{remove-keep}
use Rattle.orderfile.specs.Test.{no_other, none_twice, is_complete}

pub record Complete (taken : ℕ) (ns : List ℕ) : Type 0 where
  pub many : length ns ≡ taken
  pub low : (u : ℕ) → u ∈ ns → u < taken
  pub once : Nodup ns

low_of : (taken : ℕ) (ns : List ℕ) → no_other taken ns ≡ true → (u : ℕ) → u ∈ ns → u < taken
unfolding no_other
low_of taken [] h u x'' = elim x'' [ ]
low_of taken (n ∷ ns) h u (Memᴰ.head e) = let l = ltb-true n taken (and-true (ltb n taken) _ h).0 in omega arith
low_of taken (n ∷ ns) h u (Memᴰ.tail i) = low_of taken ns (and-true (ltb n taken) _ h).1 u i

of_low : (taken : ℕ) (ns : List ℕ) → ((u : ℕ) → u ∈ ns → u < taken) → no_other taken ns ≡ true
unfolding no_other
of_low taken [] h = refl
of_low taken (n ∷ ns) h = rw (lt-ltb n taken (h n (Memᴰ.head refl)), of_low taken ns (λ u i. h u (Memᴰ.tail i)))

once_of : (ns : List ℕ) → none_twice ns ≡ true → Nodup ns
unfolding none_twice
once_of [] h = Nodup-nil
once_of (n ∷ ns) h =
    let a = and-true (not (member n ns)) _ h in
    let out : n ∈ ns → ⊥ = λ i. false≢true (sym (not-true (member n ns) a.0) ∙ in_member n ns i) in
    Nodup-cons.1 (λ m. ∥∥₁_elim m ⊥_prop out, once_of ns a.1)

of_once : (ns : List ℕ) → Nodup ns → none_twice ns ≡ true
unfolding none_twice
of_once [] h = refl
of_once (n ∷ ns) h = cases (member n ns) (λ e. absurd ((Nodup-cons.0 h).0 ∣ member_in n ns e ∣₁)) (λ e. rw (e, of_once ns (Nodup-cons.0 h).1))

pub complete : (taken : ℕ) (ns : List ℕ) → is_complete taken ns ≡ true → Complete taken ns
unfolding is_complete
complete taken ns h =
    let a = and-true (eqb (length ns) taken) _ h in
    let b = and-true (no_other taken ns) _ a.1 in
    record { many = eqb-true (length ns) taken a.0; low = low_of taken ns b.0; once = once_of ns b.1 }

pub is-complete : (taken : ℕ) (ns : List ℕ) → Complete taken ns → is_complete taken ns ≡ true
unfolding is_complete
is-complete taken ns c = rw (eq-eqb (length ns) taken c.many, of_low taken ns c.low, of_once ns c.once)

pub not_as_many : (taken : ℕ) (ns : List ℕ) → (length ns ≡ taken → ⊥) → false ≡ is_complete taken ns
not_as_many taken ns h = cases (is_complete taken ns) (λ e. absurd (h (complete taken ns e).many)) sym

-- as many different numbers below n as n: so all of them
pub all_there : (taken : ℕ) (ns : List ℕ) → Complete taken ns → (u : ℕ) → u < taken → u ∈ ns
all_there taken ns c u l = either (mem? u ns) (λ i. i) (λ n. absurd (one_more n))
  where
    low : (x : ℕ) → x ∈ (u ∷ ns) → x < taken
    low x i = either (Memᴰ.cases_cons i) (λ e. omega arith) (λ j. c.low x j)

    one_more : (u ∈ ns → ⊥) → ⊥
    one_more n =
        let m = few_below taken (u ∷ ns) (Nodup-cons.1 (λ m. ∥∥₁_elim m ⊥_prop n, c.once)) low in
        let k = c.many in
        omega arith

-- a list that has all numbers below n has n at least
remove_less : (b : ℕ) (l : List ℕ) → b ∈ l → length l ≡ suc (length (remove b l))
unfolding remove
remove_less b [] i = elim i [ ]
remove_less b (x ∷ l) i =
    cases (eqb x b)
    (λ e. rw e)
    (λ e. rw e (ap suc (either (Memᴰ.cases_cons i) (λ q. absurd (eqb-false x b e (sym q))) (remove_less b l))))

pub at-least : (n : ℕ) (l : List ℕ) → ((u : ℕ) → u < n → u ∈ l) → n ≤ length l
at-least zero l h = omega arith
at-least (suc n) l h =
    let k = at-least n (remove n l) (λ u i. remove-keep n u l (λ e. omega arith) (h u (omega arith))) in
    let m = remove_less n l (h n (omega arith)) in
    omega arith
