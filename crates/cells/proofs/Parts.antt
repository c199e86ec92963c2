-- Parts in a row: what stands where, one part read or replaced, and a row of writes. Each law is over the part's number.
use Prim.Native.Nat.{ℕ, zero, suc, ◌+◌, ◌-◌, ◌<◌, ◌≤◌}
use mathlib.Core.Bool.{cond}
use mathlib.Core.Path.{◌≡◌, refl, sym, ◌∙◌, ap, fun_ext}
use mathlib.Core.List.{List, [], ◌∷◌, ◌++◌, append_assoc, append-nil}
use native.Mathlib.Nat.{add-zero, add-suc}
use native.Mathlib.Omega.{arith}
use lib.Dec.{eqb, ltb}
use lib.ListN.{length, take, drop, get_or, length-append, length-drop, get_or-eq_default}
use lib.Seq.{take_at, drop_at, drop-drop, take-add, take_all, get_or-take, get_or-drop, length-take-le}
use borrow.Author.Tests.{eqb-true, eq-eqb, ne_eqb, ltb-true, ltb-false}
use borrow.Rule.Slice.PartMut.{mid_of, put_mid}
use Rattle.lists.specs.Arranged.{replaced}
use Rattle.lists.proofs.Cases.{cases}
use Rattle.cells.specs.Sizes.{lower_bytes}
use Rattle.cells.specs.Parts.{Parts, Sized, parts, sizes, size, offset, in_row, glue, split, wrote, ◌⟨◌≔◌⟩}

pub row_length : (p : Parts) → Sized p → (n : ℕ) → length (in_row p n) ≡ offset n
unfolding in_row offset
row_length p h zero = refl
row_length p h (suc n) = rw (length-append, row_length p h n, h.of n)

-- m parts after part i
after : Parts → ℕ → ℕ → List ℕ
after p i zero = []
after p i (suc m) = after p i m ++ p (suc i + m)

row_at : (p : Parts) (i m : ℕ) → in_row p (suc i + m) ≡ in_row p i ++ (p i ++ after p i m)
unfolding in_row after
row_at p i zero = rw (add-zero, append-nil)
row_at p i (suc m) = rw (add-suc, row_at p i m) (simp append_assoc)

glue_at : (p : Parts) (i : ℕ) → i < parts → glue p ≡ in_row p i ++ (p i ++ after p i (parts - suc i))
unfolding glue
glue_at p i h = ap (in_row p) (omega arith) ∙ row_at p i (parts - suc i)

row_same : (p q : Parts) (n : ℕ) → ((j : ℕ) → j < n → p j ≡ q j) → in_row p n ≡ in_row q n
unfolding in_row
row_same p q zero h = refl
row_same p q (suc n) h = rw (row_same p q n (λ j l. h j (omega arith)), h n (omega arith))

after_same : (p q : Parts) (i m : ℕ) → ((j : ℕ) → i < j → p j ≡ q j) → after p i m ≡ after q i m
unfolding after
after_same p q i zero h = refl
after_same p q i (suc m) h = rw (after_same p q i m h, h (suc i + m) (omega arith))

-- what stands at part i's place, and that place filled with another part
pub glue-read : (p : Parts) → Sized p → (i : ℕ) → i < parts → mid_of (offset i) (size i) (glue p) ≡ p i
glue-read p h i l =
    rw (glue_at p i l, drop_at (in_row p i) (p i ++ after p i (parts - suc i)) (offset i) (row_length p h i))
    (take_at (p i) (after p i (parts - suc i)) (size i) (h.of i))

pub glue_write : (p : Parts) → Sized p → (i : ℕ) (q : List ℕ) → i < parts → put_mid (offset i) (size i) (glue p) q ≡ glue (p ⟨ i ≔ q ⟩)
glue_write p h i q l =
    let p' = p ⟨ i ≔ q ⟩ in
    let other : (j : ℕ) → (j ≡ i → ⊥) → p j ≡ p' j = λ j n. sym (ap (λ b. cond b q (p j)) (ne_eqb j i n)) in
    rw (
      glue_at p i l,
      take_at (in_row p i) (p i ++ after p i (parts - suc i)) (offset i) (row_length p h i),
      drop_at (in_row p i) (p i ++ after p i (parts - suc i)) (offset i) (row_length p h i),
      drop_at (p i) (after p i (parts - suc i)) (size i) (h.of i),
      row_same p p' i (λ j m. other j (omega arith)),
      after_same p p' i (parts - suc i) (λ j m. other j (omega arith)),
    )
    (ap (λ z. in_row p' i ++ (z ++ after p' i (parts - suc i))) (sym (ap (λ b. cond b q (p i)) (eq-eqb i i refl))) ∙ sym (glue_at p' i l))

no_bytes : (i : ℕ) → parts ≤ i → size i ≡ 0
unfolding size
no_bytes i h = get_or-eq_default sizes 0 {n = i} h

nothing : (l : List ℕ) → length l ≡ 0 → l ≡ []
nothing [] h = refl
nothing (x ∷ l) h = absurd (omega arith)

-- a row taken apart again
pub split-glue : (p : Parts) → Sized p → split (glue p) ≡ p
unfolding split
split-glue p h = fun_ext (λ i. cases (ltb i parts)
    (λ e. glue-read p h i (ltb-true i parts e))
    (λ e. let z = no_bytes i (ltb-false i parts e) in rw z (sym (nothing (p i) (h.of i ∙ z)))))

split_row : (d : List ℕ) (n : ℕ) → in_row (split d) n ≡ take (offset n) d
unfolding in_row split offset
split_row d zero = refl
split_row d (suc n) = rw (split_row d n) (sym (take-add (offset n) (size n) d))

pub all-bytes : offset parts ≡ lower_bytes
unfolding offset size
all-bytes = refl

pub glue-split : (d : List ℕ) → length d ≡ lower_bytes → glue (split d) ≡ d
unfolding glue
glue-split d h = let o = all-bytes in split_row d parts ∙ take_all (offset parts) d (omega arith)

offset-grows : (i m : ℕ) → offset i ≤ offset (i + m)
unfolding offset
offset-grows i zero = rw add-zero (omega arith)
offset-grows i (suc m) = let h = offset-grows i m in rw add-suc (omega arith)

within : (i : ℕ) → i < parts → offset i + size i ≤ lower_bytes
unfolding offset
within i h =
    let g = offset-grows (suc i) (parts - suc i) in
    let whole : suc i + (parts - suc i) ≡ parts = omega arith in
    let e : offset (suc i + (parts - suc i)) ≡ lower_bytes = ap offset whole ∙ all-bytes in
    omega arith

pub split_sized : (d : List ℕ) → length d ≡ lower_bytes → Sized (split d)
unfolding split
split_sized d e = record {
  of = λ i. cases (ltb i parts) (λ q. let w = within i (ltb-true i parts q) in length-take-le (size i) (drop (offset i) d) (rw length-drop (omega arith))) (λ q. let z = no_bytes i (ltb-false i parts q) in rw z);
}

pub glue-length : (p : Parts) → Sized p → length (glue p) ≡ lower_bytes
unfolding glue
glue-length p h = row_length p h parts ∙ all-bytes

pub sized_with : {p : Parts} → Sized p → (i : ℕ) (q : List ℕ) → length q ≡ size i → Sized (p ⟨ i ≔ q ⟩)
sized_with h i q l = record { of = λ j. cases (eqb j i) (λ e. rw (e, eqb-true j i e) l) (λ e. rw e (h.of j)) }

pub with_same : (p : Parts) (i : ℕ) → p ⟨ i ≔ p i ⟩ ≡ p
with_same p i = fun_ext (λ j. cases (eqb j i) (λ e. rw (e, eqb-true j i e)) (λ e. rw e))

-- for code: part i, lent as `&mut d[a..e]`, comes back as q, or as f of what it was. Lent to be read it is `split d i`, by definition.
pub part-wrote : (d : List ℕ) (i : ℕ) (q : List ℕ) → length d ≡ lower_bytes → i < parts → put_mid (offset i) (size i) d q ≡ wrote d i q
part-wrote d i q h l = ap (λ z. put_mid (offset i) (size i) z q) (sym (glue-split d h)) ∙ glue_write (split d) (split_sized d h) i q l

pub part-lent : (d : List ℕ) (i : ℕ) (f : List ℕ → List ℕ) {q : List ℕ} → length d ≡ lower_bytes → i < parts → q ≡ f (mid_of (offset i) (size i) d) → put_mid (offset i) (size i) d q ≡ wrote d i (f (split d i))
unfolding split
part-lent d i f {q} h l e = part-wrote d i q h l ∙ ap (wrote d i) e

pub part_put : (d : List ℕ) (i : ℕ) (q : List ℕ) → length d ≡ lower_bytes → i < parts → replaced d (offset i) (size i) q ≡ wrote d i q
part_put d i q h l = ap (λ z. take (offset i) d ++ (q ++ z)) (sym (drop-drop (size i) (offset i) d)) ∙ part-wrote d i q h l

-- byte j of k bytes from a on, and of part i, read in the whole
pub mid_byte : (d : List ℕ) (a k j : ℕ) → j < k → get_or d (a + j) 0 ≡ get_or (mid_of a k d) j 0
mid_byte d a k j h = sym (get_or-drop a d j 0) ∙ sym (get_or-take k (drop a d) j 0 h)

pub part-byte : (d : List ℕ) (i j : ℕ) → j < size i → get_or d (offset i + j) 0 ≡ get_or (split d i) j 0
unfolding split
part-byte d i j h = mid_byte d (offset i) (size i) j h

-- bytes that are these parts
pub record Holds (d : List ℕ) (p : Parts) : Type 0 where
  pub eq : d ≡ glue p
  pub sized : Sized p

pub holds_split : (d : List ℕ) → length d ≡ lower_bytes → Holds d (split d)
holds_split d h = record { eq = sym (glue-split d h); sized = split_sized d h }

pub split_is : {d : List ℕ} {p : Parts} → Holds d p → split d ≡ p
split_is {d} {p} h = ap split h.eq ∙ split-glue p h.sized

-- a step g on the parts
pub holds_step : {d d' : List ℕ} {p : Parts} (g : Parts → Parts) → Holds d p → d' ≡ glue (g (split d)) → Sized (g p) → Holds d' (g p)
holds_step g h e s = record { eq = e ∙ ap (λ q. glue (g q)) (split_is h); sized = s }

-- one part written, with a function of the old one
pub holds_wrote : {d d' : List ℕ} {p : Parts} (i : ℕ) (f : List ℕ → List ℕ) → Holds d p → d' ≡ wrote d i (f (split d i)) → length (f (p i)) ≡ size i → Holds d' (p ⟨ i ≔ f (p i) ⟩)
holds_wrote {p} i f h e l = holds_step (λ q. q ⟨ i ≔ f (q i) ⟩) h e (sized_with h.sized i (f (p i)) l)

-- one part put in whole
pub holds_put : {d d' : List ℕ} {p : Parts} (i : ℕ) (q : List ℕ) → i < parts → length q ≡ size i → Holds d p → d' ≡ replaced d (offset i) (length q) q → Holds d' (p ⟨ i ≔ q ⟩)
holds_put {d} {p} i q l s h e =
    holds_wrote i (λ t. q) h (e ∙ ap (λ n. replaced d (offset i) n q) s ∙ part_put d i q (ap length h.eq ∙ glue-length p h.sized) l) s
