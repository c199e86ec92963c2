-- The layout's and the queue's first places after a fork and a drop, and so after a join: what the revisions out and the numbers handed in are then.
use Prim.Native.Nat.{ℕ, zero, suc, ◌-◌, ◌<◌, ◌≤◌}
use mathlib.Core.Path.{◌≡◌, refl, sym, ◌∙◌, ap}
use mathlib.Core.List.Memᴰ
use mathlib.Core.List.{List, [], ◌∷◌, ◌++◌}
use native.Mathlib.Numerals.{add-one, sub-one}
use native.Mathlib.Omega.{arith}
use lib.Dec.{eqb}
use lib.ListN.{length, take, length-append}
use lib.Seq.{take-append-le, take-suc-set, take-take}
use borrow.Author.Tests.{eqb-false, le-ltb, lt-ltb}
use Rattle.lists.specs.Lists.{◌∈◌, head_of, rest_of}
use Rattle.lists.specs.Arranged.{insert_before, remove}
use Rattle.lists.proofs.Cases.{cases, either}
use Rattle.cells.specs.Sizes.{revisions}
use Rattle.cells.specs.Cells.{Cells, freed, outs}
use Rattle.cells.specs.CellSteps.{fork_cells, drop_cells}
use Rattle.cells.proofs.Stops.{fewer_is}

take_insert : (q c n : ℕ) (l : List ℕ) → q ∈ take n l → take (suc n) (insert_before q c l) ≡ insert_before q c (take n l)
unfolding insert_before
take_insert q c zero l m = absurd (Memᴰ.not-nil m)
take_insert q c (suc n) [] m = absurd (Memᴰ.not-nil m)
take_insert q c (suc n) (x ∷ l) m =
    cases (eqb x q)
    (λ e. rw e)
    (λ e. rw e (ap (λ z. x ∷ z) (take_insert q c n l (either (Memᴰ.cases_cons m) (λ w. absurd (eqb-false x q e (sym w))) (λ o. o)))))

take-remove : (b n : ℕ) (l : List ℕ) → suc n ≤ length l → b ∈ take (suc n) l → take n (remove b l ++ (0 ∷ [])) ≡ remove b (take (suc n) l)
unfolding remove
take-remove b n [] h m = absurd (omega arith)
take-remove b zero (x ∷ l) h m =
    cases (eqb x b)
    (λ e. rw e)
    (λ e. absurd (either (Memᴰ.cases_cons m) (λ q. eqb-false x b e (sym q)) (λ o. Memᴰ.not-nil o)))
take-remove b (suc n) (x ∷ l) h m =
    cases (eqb x b)
    (λ e. rw e (take-append-le (suc n) l (0 ∷ []) (omega arith)))
    (λ e. rw e (ap (λ z. x ∷ z) (take-remove b n l (omega arith) (either (Memᴰ.cases_cons m) (λ q. absurd (eqb-false x b e (sym q))) (λ o. o)))))

pub insert_length : (q c : ℕ) (l : List ℕ) → length l ≤ length (insert_before q c l)
unfolding insert_before
insert_length q c [] = omega arith
insert_length q c (x ∷ l) = let h = insert_length q c l in cases (eqb x q) (λ e. rw e (omega arith)) (λ e. rw e (omega arith))

pub remove-length : (b : ℕ) (l : List ℕ) → length l ≤ length (remove b l ++ (0 ∷ []))
unfolding remove
remove-length b [] = omega arith
remove-length b (x ∷ l) = let h = remove-length b l in cases (eqb x b) (λ e. rw (e, length-append) (omega arith)) (λ e. rw e (omega arith))

-- the first place of the queue left
pub shift_length : (l : List ℕ) → 0 < length l → length (rest_of l ++ (1 ∷ [])) ≡ length l
shift_length [] h = absurd (omega arith)
shift_length (x ∷ l) h = length-append l (1 ∷ []) ∙ add-one (length l)

take_shift : (n : ℕ) (l : List ℕ) → suc n ≤ length l → take n (rest_of l ++ (1 ∷ [])) ≡ rest_of (take (suc n) l)
take_shift n [] h = absurd (omega arith)
take_shift n (x ∷ l) h = take-append-le n l (1 ∷ []) (omega arith)

-- where the layout has room, the forked revision stands in front of the one it was forked from
pub fork_outs : (k : Cells) (q c : ℕ) → k.out < revisions → q ∈ outs k → outs (fork_cells k q c) ≡ insert_before q c (outs k)
fork_outs k q c h m = take-take (suc k.out) revisions (insert_before q c k.layout) h ∙ take_insert q c k.out k.layout m

-- of two revisions out there are two
pub two_out : (k : Cells) (a b : ℕ) → a ∈ outs k → b ∈ outs k → (a ≡ b → ⊥) → 1 < k.out
two_out k a b i j d = go k.out k.layout i j
  where
    go : (n : ℕ) (l : List ℕ) → a ∈ take n l → b ∈ take n l → 1 < n
    go zero l i j = absurd (Memᴰ.not-nil i)
    go (suc zero) [] i j = absurd (Memᴰ.not-nil i)
    go (suc zero) (x ∷ l) i j = absurd (d (Memᴰ.eq_of_singleton i ∙ sym (Memᴰ.eq_of_singleton j)))
    go (suc (suc n)) l i j = omega arith

-- a revision dropped or joined that is in the layout is out of it
pub drop-outs : (k : Cells) (r : ℕ) → length k.layout ≡ revisions → 1 < k.out → k.out ≤ revisions → r ∈ outs k → outs (drop_cells k r) ≡ remove r (outs k)
drop-outs k r l o h m = rw (fewer_is k.out o) (go k.out h m)
  where
    go : (n : ℕ) → n ≤ revisions → r ∈ take n k.layout → take (n - 1) (take revisions (remove r k.layout ++ (0 ∷ []))) ≡ remove r (take n k.layout)
    go zero g i = absurd (Memᴰ.not-nil i)
    go (suc n) g i = rw sub-one (take-take n revisions (remove r k.layout ++ (0 ∷ [])) (omega arith) ∙ take-remove r n k.layout (omega arith) i)

-- the queue after a fork: as it was while a number was never used, else without its first place, whose number is given
module _ (k : Cells) (q c : ℕ) where
  pub fork-freed : k.given < revisions → freed (fork_cells k q c) ≡ freed k
  fork-freed g = let z : suc k.given - suc k.out ≡ k.given - k.out = omega arith in rw (lt-ltb k.given revisions g, z)

  pub fork-freed-first : length k.queue ≡ revisions → revisions ≤ k.given → k.out < k.given → k.given ≤ revisions → freed (fork_cells k q c) ≡ rest_of (freed k)
  fork-freed-first l g o m =
      let z : k.given - k.out ≡ suc (k.given - suc k.out) = omega arith in
      rw (le-ltb k.given revisions g, z) (take_shift (k.given - suc k.out) k.queue (omega arith))

pub first_freed : (k : Cells) → k.out < k.given → head_of (freed k) ≡ head_of k.queue
first_freed k o = let z : k.given - k.out ≡ suc (k.given - suc k.out) = omega arith in rw z (first (k.given - suc k.out) k.queue)
  where
    first : (n : ℕ) (l : List ℕ) → head_of (take (suc n) l) ≡ head_of l
    first n [] = refl
    first n (x ∷ l) = refl

-- after a drop, and so after a join, the number is last
pub drop-freed : (k : Cells) (r : ℕ) → length k.queue ≡ revisions → 1 < k.out → k.out ≤ k.given → k.given ≤ revisions → freed (drop_cells k r) ≡ freed k ++ (r ∷ [])
drop-freed k r l p o m =
    let z : k.given - (k.out - 1) ≡ suc (k.given - k.out) = omega arith in
    rw (fewer_is k.out p, z) (take-suc-set k.queue (k.given - k.out) r (omega arith))
