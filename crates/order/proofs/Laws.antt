-- Entries put behind others in a buffer, and what was gathered along the links.
use Prim.Native.Nat.{ℕ, zero, suc, ◌+◌, ◌-◌, ◌<◌, ◌≤◌, min}
use mathlib.Core.Bool.{Bool, false, cond, ◌||◌, and-false}
use mathlib.Core.Path.{◌≡◌, refl, sym, ap, subst, ◌∙◌}
use mathlib.Core.List.{List, [], ◌∷◌, ◌++◌, append_assoc, append-nil}
use native.Mathlib.Numerals.{add-one, sub-one}
use native.Mathlib.Omega.{arith}
use lib.Dec.{ltb}
use lib.ListN.{length, set, get_or, take, drop, length-append, length-take, length-drop, length-set, take-append-drop, drop_of_length-le}
use lib.Seq.{take-suc, take_all, take-append-le, take-take, length-take-le, set_split, take_at, drop_at, drop-cons, drop-drop, get_or-set_same, drop-set-lt}
use borrow.Author.Tests.{ltb-true, ltb-false, lt-ltb, le-ltb}
use Rattle.lists.proofs.Keep.{keep-++}
use Rattle.lists.proofs.Cases.{cases}
use Rattle.cells.specs.Sizes.{updates}
use Rattle.cells.specs.Cells.{Cells, chain, own, flagged}
use Rattle.cells.specs.Decode.{cells}
use Rattle.cells.specs.Order.{picks}
use Rattle.cells.proofs.Chain.{chain_length}
use Rattle.order.specs.Added.{front, Added, offered}

module _ (b : List ℕ) (lb : length b ≡ updates) where
  front_length : (n : ℕ) (l : List ℕ) → n ≤ updates → length (front b n l) ≡ min updates (n + length l)
  front_length n l h = let e = length-take-le n b (omega arith) in rw (length-take, length-append, e)

  pub added-bounds : (n : ℕ) (l a : List ℕ) (m : ℕ) → n ≤ updates → Added b n l a m → (n ≤ m) × (m ≤ updates) × (length a ≡ updates)
  added-bounds n l a m h d =
      let e = d.many ∙ front_length n l h in
      let f : length a ≡ m + (updates - m) = ap length d.eq ∙ rw (length-append, ← d.many, length-drop, lb) in
      (omega arith, omega arith, omega arith)

  pub added_none : (n : ℕ) → n ≤ updates → Added b n [] b n
  added_none n h =
      let e = length-take-le n b (omega arith) in
      let f : front b n [] ≡ take n b = ap (take updates) (append-nil (take n b)) ∙ take_all updates (take n b) (omega arith) in
      record { many = sym (ap length f ∙ e); eq = sym (ap (λ z. z ++ drop n b) f ∙ take-append-drop n b) }

  pub push-full : (n x : ℕ) → n ≡ updates → Added b n (x ∷ []) b n
  push-full n x h =
      let f : front b n (x ∷ []) ≡ take n b =
      ap (λ k. take updates (take k b ++ (x ∷ []))) h ∙ ap (λ z. take updates (z ++ (x ∷ []))) (take_all updates b (omega arith)) ∙ take-append-le updates b (x ∷ []) (omega arith) ∙ ap (λ k. take k b) (sym h) in
      record { many = sym (ap length f ∙ length-take-le n b (omega arith)); eq = sym (ap (λ z. z ++ drop n b) f ∙ take-append-drop n b) }

  pub push-room : (n x : ℕ) → n < updates → Added b n (x ∷ []) (set b n x) (n + 1)
  push-room n x h =
      let e = length-take-le n b (omega arith) in
      let l : length (take n b ++ (x ∷ [])) ≡ n + 1 = rw (length-append, e) in
      let f : front b n (x ∷ []) ≡ take n b ++ (x ∷ []) = take_all updates (take n b ++ (x ∷ [])) (omega arith) in
      record { many = sym (ap length f ∙ l); eq = set_split b n x (omega arith) ∙ sym (ap (λ z. z ++ drop (n + 1) b) f ∙ append_assoc (take n b) (x ∷ []) (drop (n + 1) b) ∙ ap (λ k. take n b ++ (x ∷ drop k b)) (add-one n)) }

  -- one list behind another
  pub added_then : (n : ℕ) (l mid : List ℕ) (m : ℕ) (l' after : List ℕ) (k : ℕ) → n ≤ updates → Added b n l mid m → Added mid m l' after k → Added b n (l ++ l') after k
  added_then n l mid m l' after k h d e =
      let w = added-bounds n l mid m h d in
      let t : take m mid ≡ front b n l = ap (take m) d.eq ∙ take_at (front b n l) (drop m b) m (sym d.many) in
      let f : front mid m l' ≡ front b n (l ++ l') = ap (λ z. take updates (z ++ l')) t ∙ cap (take n b ++ l) l' ∙ ap (take updates) (append_assoc (take n b) l l') in
      let j : m ≤ k = rest mid w.2 m l' after k w.1 e in
      let g : drop k mid ≡ drop k b = ap (drop k) d.eq ∙ past (front b n l) m k (sym d.many) j in
      record { many = e.many ∙ ap length f; eq = e.eq ∙ ap (λ z. z ++ drop k mid) f ∙ ap (λ z. front b n (l ++ l') ++ z) g }
    where
      cap : (u v : List ℕ) → take updates (take updates u ++ v) ≡ take updates (u ++ v)
      cap u v =
          cases (ltb updates (length u))
          (λ q.
          let z = ltb-true updates (length u) q in
          let y = length-take-le updates u (omega arith) in
          take-append-le updates (take updates u) v (omega arith) ∙ take-take updates updates u (omega arith) ∙ sym (take-append-le updates u v (omega arith)))
          (λ q. let z = ltb-false updates (length u) q in ap (λ z. take updates (z ++ v)) (take_all updates u z))

      rest : (c : List ℕ) → length c ≡ updates → (m : ℕ) (v a : List ℕ) (k : ℕ) → m ≤ updates → Added c m v a k → m ≤ k
      rest c lc m v a k h q = let y = length-take-le m c (omega arith) in let z : k ≡ min updates (m + length v) = q.many ∙ rw (length-take, length-append, y) in omega arith

      past : (u : List ℕ) (m k : ℕ) → length u ≡ m → m ≤ k → drop k (u ++ drop m b) ≡ drop k b
      past u m k y z =
          let i : m + (k - m) ≡ k = omega arith in
          ap (λ j. drop j (u ++ drop m b)) (sym i) ∙ sym (drop-drop (k - m) m (u ++ drop m b)) ∙ ap (drop (k - m)) (drop_at u (drop m b) m y) ∙ drop-drop (k - m) m b ∙ ap (λ j. drop j b) i

-- of a list its first b entries, and of the others those that pass, one entry more
picks-nil : (b : ℕ) (f : ℕ → Bool) → picks b f [] ≡ []
picks-nil zero f = refl
picks-nil (suc b) f = refl

same_test : (i b : ℕ) → ltb i b ≡ ltb (suc i) (suc b)
same_test i b = cases (ltb i b) (λ e. e ∙ sym (lt-ltb (suc i) (suc b) (let l = ltb-true i b e in omega arith))) (λ e. e ∙ sym (le-ltb (suc i) (suc b) (let l = ltb-false i b e in omega arith)))

picks_more : (b : ℕ) (f : ℕ → Bool) (l : List ℕ) (x : ℕ) → picks b f (l ++ (x ∷ [])) ≡ picks b f l ++ offered b f (length l) x
picks_more zero f l x = rw (keep-++, le-ltb (length l) 0 (omega arith)) refl
picks_more (suc b) f [] x = rw (lt-ltb 0 (suc b) (omega arith)) (ap (λ z. x ∷ z) (picks-nil b f))
picks_more (suc b) f (y ∷ l) x = ap (λ z. y ∷ z) (picks_more b f l x ∙ ap (λ z. picks b f l ++ cond (z || f x) (x ∷ []) []) (same_test (length l) b))

pub picks_start : (b : ℕ) (f : ℕ → Bool) (l : List ℕ) → [] ≡ picks b f (take 0 l)
picks_start b f l = sym (picks-nil b f)

pub picks-next : (b : ℕ) (f : ℕ → Bool) (l : List ℕ) (i : ℕ) → i < length l → picks b f (take i l) ++ offered b f i (get_or l i 0) ≡ picks b f (take (i + 1) l)
picks-next b f l i h =
    let e = length-take-le i l (omega arith) in
    ap (λ j. picks b f (take i l) ++ offered b f j (get_or l i 0)) (sym e) ∙ sym (picks_more b f (take i l) (get_or l i 0)) ∙ ap (picks b f) (sym (ap (λ j. take j l) (add-one i) ∙ take-suc l i 0 h))

-- what is not below 4,096 is not flagged
pub past_flags : (d : List ℕ) (r u : ℕ) → updates ≤ u → false ≡ flagged (cells d) r u
unfolding cells
past_flags d zero u h = sym (and-false ((cells d).used 0))
past_flags d (suc r) u h = rw (le-ltb u updates h) (cases (ltb r 63) (λ e. rw e (sym (and-false ((cells d).used (suc r))))) (λ e. rw e (sym (and-false ((cells d).used (suc r))))))

-- along the links
pub gather_none : (link : ℕ → ℕ) (u n : ℕ) (out : List ℕ) → n ≡ 0 → out ≡ chain link u n ++ drop n out
unfolding chain
gather_none link u n out e = rw e refl

pub gather_more : (link : ℕ → ℕ) (u n : ℕ) (out : List ℕ) → (n ≡ 0 → ⊥) → n ≤ length out → chain link (link u) (n - 1) ++ drop (n - 1) (set out (n - 1) u) ≡ chain link u n ++ drop n out
unfolding chain
gather_more link u zero out p h = absurd (p refl)
gather_more link u (suc m) out p h =
    let g : m < length (set out m u) = simp length-set (omega arith) in
    rw (sub-one, drop-cons (set out m u) m 0 g, get_or-set_same out m u 0 (omega arith), drop-set-lt (suc m) out m u (omega arith), append_assoc)

-- of an own list, read backwards: its last entry, and what is left
pub picks-none : (b : ℕ) (f : ℕ → Bool) (link : ℕ → ℕ) (u n : ℕ) → n ≡ 0 → picks b f (chain link u n) ≡ []
unfolding chain
picks-none b f link u n e = rw e (picks-nil b f)

pub picks_last : (b : ℕ) (f : ℕ → Bool) (link : ℕ → ℕ) (u n : ℕ) → 0 < n → picks b f (chain link u n) ≡ picks b f (chain link (link u) (n - 1)) ++ offered b f (n - 1) u
unfolding chain
picks_last b f link u zero h = absurd (omega arith)
picks_last b f link u (suc m) h =
    rw sub-one (picks_more b f (chain link (link u) m) u ∙ ap (λ i. picks b f (chain link (link u) m) ++ offered b f i u) (chain_length link (link u) m))

-- what a list leaves in the first n places: itself, so the own list
pub fits : (n : ℕ) (a b l : List ℕ) → n ≡ length a → l ≡ a ++ b → (n ≤ length l) × (take n l ≡ a)
fits n a b l e h = (rw (h, length-append) (omega arith), rw h (take_at a b n (sym e)))

pub gathered : (k : Cells) (x n : ℕ) (g rest : List ℕ) → n ≡ k.count x → g ≡ own k x ++ rest → (n ≤ length g) × (take n g ≡ own k x)
gathered k x n g rest e q = fits n (own k x) rest g (e ∙ sym (chain_length k.link (k.last x) (k.count x))) q

pub picks_all : (k : Cells) (x n : ℕ) (f : ℕ → Bool) → n ≡ k.count x → picks n f (own k x) ≡ own k x
picks_all k x n f e =
    let m = chain_length k.link (k.last x) (k.count x) in
    rw (take_all n (own k x) (omega arith), drop_of_length-le (own k x) {i = n} (omega arith)) (append-nil (own k x))

pub added_as : {b a l l' : List ℕ} {n m : ℕ} → l ≡ l' → Added b n l a m → Added b n l' a m
added_as {b} {a} {n = n} {m = m} e d = subst (λ z. Added b n z a m) e d

-- the entries of a list offered one after the other
module _ (b : List ℕ) (lb : length b ≡ updates) (n : ℕ) (h : n ≤ updates) (base : ℕ) (f : ℕ → Bool) (l : List ℕ) where
  pub sift-start : Added b n (picks base f (take 0 l)) b n
  sift-start = added_as (picks_start base f l) (added_none b lb n h)

  pub sift-more : (i : ℕ) (mid : List ℕ) (m : ℕ) (after : List ℕ) (k : ℕ) → i < length l → Added b n (picks base f (take i l)) mid m → Added mid m (offered base f i (get_or l i 0)) after k → Added b n (picks base f (take (i + 1) l)) after k
  sift-more i mid m after k g d e = added_as (picks-next base f l i g) (added_then b lb n _ mid m _ after k h d e)

  pub sift-end : (i : ℕ) (after : List ℕ) (m : ℕ) → length l ≤ i → Added b n (picks base f (take i l)) after m → Added b n (picks base f l) after m
  sift-end i after m g d = added_as (ap (picks base f) (take_all i l g)) d

pub gathered-length : (k : Cells) (x n : ℕ) (g rest : List ℕ) → n ≡ k.count x → g ≡ own k x ++ rest → n ≡ length (take n g)
gathered-length k x n g rest e q = sym (length-take-le n g (gathered k x n g rest e q).0)
