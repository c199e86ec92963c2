-- 64 places: a place sought, a gap closed, a gap opened.
use Prim.Native.Nat.{ℕ, suc, ◌+◌, ◌-◌, ◌<◌, ◌≤◌}
use mathlib.Core.Path.{◌≡◌, refl, sym, subst, ap, ◌∙◌}
use mathlib.Core.List.{List, [], ◌∷◌, ◌++◌, append_assoc, append-nil}
use native.Mathlib.Numerals.{add-one}
use native.Mathlib.Omega.{arith}
use lib.Dec.{eqb, ltb}
use lib.ListN.{length, set, get_or, take, drop, length-append, length-drop, drop_of_length-le}
use lib.Seq.{paste, take-suc, take_all, take-append-le, take-append-add, set_at, length-take-le}
use borrow.Author.Tests.{ltb-true, ltb-false}
use Rattle.std.specs.Prelude.{MatchOption}
use Rattle.std.specs.List.{position, position_or_len}
use Rattle.std.specs.declared.option.Option.{Option}
use Rattle.lists.specs.Lists.{rest_of}
use Rattle.lists.specs.Arranged.{insert_before, remove}
use Rattle.lists.proofs.Cases.{cases}

-- the first place of r, or the length
abbrev pub place : ℕ → List ℕ → ℕ
place r t = position_or_len (λ x. eqb x r) t

-- what the search told
pub sought : (r : ℕ) (t : List ℕ) (o : Option ℕ) → o ≡ position (λ x. eqb x r) t → MatchOption o (length t ≤ place r t) (λ i. (i ≡ place r t) × (i < length t))
sought r t o e =
    subst (λ z. MatchOption z (length t ≤ place r t) (λ i. (i ≡ place r t) × (i < length t))) (sym e)
    (cases (ltb (place r t) (length t)) (λ l. rw l (refl, ltb-true _ _ l)) (λ l. rw l (ltb-false _ _ l)))

-- what is done at the place that was found, and where none was
pub remove-place : (r : ℕ) (t : List ℕ) → place r t < length t → remove r t ≡ take (place r t) t ++ drop (suc (place r t)) t
unfolding remove
remove-place r [] h = refl
remove-place r (x ∷ t) h =
    cases (eqb x r)
    (λ e. rw e)
    (λ e. let l : 1 + place r t < suc (length t) = rw e at h in let q : 1 + place r t ≡ suc (place r t) = omega arith in rw (e, q) (ap (λ z. x ∷ z) (remove-place r t (omega arith))))

pub remove-none : (r : ℕ) (t : List ℕ) → length t ≤ place r t → remove r t ≡ t
unfolding remove
remove-none r [] h = refl
remove-none r (x ∷ t) h =
    cases (eqb x r)
    (λ e. let l : suc (length t) ≤ 0 = rw e at h in absurd (omega arith))
    (λ e. let l : suc (length t) ≤ 1 + place r t = rw e at h in rw e (ap (λ z. x ∷ z) (remove-none r t (omega arith))))

pub insert_place : (r c : ℕ) (t : List ℕ) → place r t < length t → insert_before r c t ≡ take (place r t) t ++ (c ∷ drop (place r t) t)
unfolding insert_before
insert_place r c [] h = absurd (omega arith)
insert_place r c (x ∷ t) h =
    cases (eqb x r)
    (λ e. rw e)
    (λ e. let l : 1 + place r t < suc (length t) = rw e at h in let q : 1 + place r t ≡ suc (place r t) = omega arith in rw (e, q) (ap (λ z. x ∷ z) (insert_place r c t (omega arith))))

pub insert_none : (r c : ℕ) (t : List ℕ) → length t ≤ place r t → insert_before r c t ≡ t
unfolding insert_before
insert_none r c [] h = refl
insert_none r c (x ∷ t) h =
    cases (eqb x r)
    (λ e. let l : suc (length t) ≤ 0 = rw e at h in absurd (omega arith))
    (λ e. let l : suc (length t) ≤ 1 + place r t = rw e at h in rw e (ap (λ z. x ∷ z) (insert_none r c t (omega arith))))

-- t without its place i
abbrev pub without : ℕ → List ℕ → List ℕ
without i t = take i t ++ drop (i + 1) t

pub without-length : (i : ℕ) (t : List ℕ) → i < length t → length (without i t) + 1 ≡ length t
without-length i t h = let e = length-take-le i t (omega arith) in rw (length-append, e, length-drop) (omega arith)

-- the first place closed
pub first_closed : (t : List ℕ) (v : ℕ) → without 0 t ++ (v ∷ []) ≡ rest_of t ++ (v ∷ [])
first_closed [] v = refl
first_closed (x ∷ t) v = refl

-- 64 places, what stood at i and behind it moved one place back
pub opened : (i : ℕ) (t u : List ℕ) (x : ℕ) → length t ≡ 64 → i < 64 → u ≡ paste t (i + 1) (drop i t) (63 - i) → set u i x ≡ take 64 (take i t ++ (x ∷ drop i t))
opened i t u x h l e =
    let a = length-take-le i t (omega arith) in
    let s : take (i + 1) t ≡ take i t ++ (get_or t i 0 ∷ []) = ap (λ z. take z t) (add-one i) ∙ take-suc t i 0 (omega arith) in
    let m : 64 ≡ length (take i t) + suc (63 - i) = rw a (omega arith) in
    let none : drop (i + 1 + (63 - i)) t ≡ [] = drop_of_length-le t (omega arith) in
    let back = take (63 - i) (drop i t) in
    ap (λ z. set z i x)
    (e ∙ ap (λ z. (take (i + 1) t ++ back) ++ z) none ∙ append-nil (take (i + 1) t ++ back) ∙ ap (λ z. z ++ back) s ∙ append_assoc (take i t) (get_or t i 0 ∷ []) back)
    ∙ set_at (take i t) (get_or t i 0) back x i a
    ∙ sym (ap (λ z. take z (take i t ++ (x ∷ drop i t))) m ∙ take-append-add (take i t) (x ∷ drop i t) (suc (63 - i)))

-- the whole of what the layout's functions write
pub taken_out : (b i : ℕ) (t : List ℕ) → length t ≡ 64 → i ≡ place b t → i < 64 → without i t ++ (0 ∷ []) ≡ take 64 (remove b t ++ (0 ∷ []))
taken_out b i t h e l =
    let w = without-length i t (omega arith) in
    let r : remove b t ≡ without i t = remove-place b t (omega arith) ∙ rw (← e, add-one) in
    sym (ap (λ z. take 64 (z ++ (0 ∷ []))) r ∙ take_all 64 (without i t ++ (0 ∷ [])) (rw length-append (omega arith)))

pub none_out : (b : ℕ) (t : List ℕ) → length t ≡ 64 → length t ≤ place b t → t ≡ take 64 (remove b t ++ (0 ∷ []))
none_out b t h l =
    sym (ap (λ z. take 64 (z ++ (0 ∷ []))) (remove-none b t l) ∙ take-append-le 64 t (0 ∷ []) (omega arith) ∙ take_all 64 t (omega arith))

pub put_in : (p c i : ℕ) (t : List ℕ) → length t ≡ 64 → i ≡ place p t → i < 64 → take 64 (take i t ++ (c ∷ drop i t)) ≡ take 64 (insert_before p c t)
put_in p c i t h e l =
    let r : insert_before p c t ≡ take i t ++ (c ∷ drop i t) = insert_place p c t (omega arith) ∙ ap (λ j. take j t ++ (c ∷ drop j t)) (sym e) in
    ap (take 64) (sym r)

pub none_in : (p c : ℕ) (t : List ℕ) → length t ≡ 64 → length t ≤ place p t → t ≡ take 64 (insert_before p c t)
none_in p c t h l = sym (ap (take 64) (insert_none p c t l) ∙ take_all 64 t (omega arith))
