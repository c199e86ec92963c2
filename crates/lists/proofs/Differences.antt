-- At how many places lists differ: at none if they are the same; part by part; by a list between; and where elements were replaced.
use Prim.Native.Nat.{◌+◌, ◌≤◌, suc, zero, ℕ}
use mathlib.Core.Path.{◌∙◌, ◌≡◌, ap, refl, subst, sym}
use mathlib.Core.List.{List, [], ◌++◌, ◌∷◌}
use native.Mathlib.Omega.{arith}
use lib.Dec.{eqb}
use lib.ListN.{drop, length, length-drop, set, take, take-append-drop}
use lib.Seq.{drop-drop, length-take-le}
use borrow.Author.Tests.{eq-eqb, eqb-true}
use Rattle.lists.proofs.Cases.{cases}
use Rattle.lists.specs.Arranged.{replaced}
use Rattle.lists.specs.Differences.{differ, differences}

pub differ-most : (x y : ℕ) → differ x y ≤ 1
differ-most x y = cases (eqb x y) (λ e. rw e (omega arith)) (λ e. rw e (omega arith))

pub differ_same : (x y : ℕ) → x ≡ y → differ x y ≡ 0
differ_same x y e = rw (eq-eqb x y e)

pub differences_same : (l : List ℕ) → differences l l ≡ 0
unfolding differences
differences_same [] = refl
differences_same (x ∷ l) = rw (differ_same x x refl, differences_same l)

pub differences-append : (a b c d : List ℕ) → length a ≡ length b → differences (a ++ c) (b ++ d) ≡ differences a b + differences c d
unfolding differences
differences-append [] [] c d h = omega arith
differences-append [] (y ∷ b) c d h = absurd (omega arith)
differences-append (x ∷ a) [] c d h = absurd (omega arith)
differences-append (x ∷ a) (y ∷ b) c d h = let g = differences-append a b c d (omega arith) in omega arith

pub differences-length : (a b : List ℕ) → length a ≡ length b → differences a b ≤ length a
unfolding differences
differences-length [] [] h = omega arith
differences-length [] (y ∷ b) h = absurd (omega arith)
differences-length (x ∷ a) [] h = absurd (omega arith)
differences-length (x ∷ a) (y ∷ b) h = let g = differences-length a b (omega arith) in let m = differ-most x y in omega arith

-- by a list between
differ_by : (x y z : ℕ) → differ x z ≤ differ x y + differ y z
differ_by x y z = cases (eqb x y) (λ e. rw (e, eqb-true x y e) (omega arith)) (λ e. let m = differ-most x z in rw e (omega arith))

nothing : (a : List ℕ) → differences a [] ≡ length a
unfolding differences
nothing [] = refl
nothing (x ∷ a) = refl

either-length : (a b : List ℕ) → differences a b ≤ length a + length b
unfolding differences
either-length [] b = omega arith
either-length (x ∷ a) [] = omega arith
either-length (x ∷ a) (y ∷ b) = let g = either-length a b in let m = differ-most x y in omega arith

longer : (a b : List ℕ) → length b ≤ length a + differences a b
unfolding differences
longer [] b = omega arith
longer (x ∷ a) [] = omega arith
longer (x ∷ a) (y ∷ b) = let g = longer a b in omega arith

pub differences_by : (a b c : List ℕ) → differences a c ≤ differences a b + differences b c
unfolding differences
differences_by [] b c = longer b c
differences_by (x ∷ a) [] c = either-length (x ∷ a) c
differences_by (x ∷ a) (y ∷ b) [] = let g = differences_by a b [] in let n = nothing a in let m = nothing b in omega arith
differences_by (x ∷ a) (y ∷ b) (z ∷ c) = let g = differences_by a b c in let h = differ_by x y z in omega arith

-- one element replaced, and k of them
pub differences-set : (t : List ℕ) (i v : ℕ) → differences t (set t i v) ≤ 1
unfolding differences
differences-set [] i v = omega arith
differences-set (x ∷ t) zero v = let g = differences_same t in let m = differ-most x v in omega arith
differences-set (x ∷ t) (suc i) v = let g = differences-set t i v in let s = differ_same x x refl in omega arith

pub differences-replaced : (t s : List ℕ) (a k : ℕ) → a + k ≤ length t → length s ≡ k → differences t (replaced t a k s) ≤ k
differences-replaced t s a k fits size =
    let old = take k (drop a t) in
    let long : length old ≡ k = length-take-le k (drop a t) (rw length-drop (omega arith)) in
    let back : old ++ drop (a + k) t ≡ drop a t = ap (λ z. old ++ z) (sym (drop-drop k a t)) ∙ take-append-drop k (drop a t) in
    let whole : take a t ++ (old ++ drop (a + k) t) ≡ t = ap (λ z. take a t ++ z) back ∙ take-append-drop a t in
    let front = differences-append (take a t) (take a t) (old ++ drop (a + k) t) (s ++ drop (a + k) t) refl in
    let rest = differences-append old s (drop (a + k) t) (drop (a + k) t) (long ∙ sym size) in
    let most = differences-length old s (long ∙ sym size) in
    let first = differences_same (take a t) in
    let last = differences_same (drop (a + k) t) in
    subst (λ z. differences z (replaced t a k s) ≤ k) whole (omega arith)
