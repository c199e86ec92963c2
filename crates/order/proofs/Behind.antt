-- The search for a revision among those that are out, and the walk back from the left.
use Prim.Native.Nat.{ℕ, zero, suc, ◌+◌, ◌-◌, ◌<◌, ◌≤◌}
use mathlib.Core.Bool.{true}
use mathlib.Core.Path.{◌≡◌, sym, ap, ◌∙◌}
use mathlib.Core.List.{List, [], ◌∷◌, ◌++◌}
use native.Mathlib.Numerals.{add-one}
use native.Mathlib.Omega.{arith}
use lib.ListN.{length, get_or, drop, drop_of_length-le}
use lib.Seq.{drop-cons, get_or-take, length-take-le}
use borrow.Author.Tests.{eq-eqb, ne_eqb}
use Rattle.lists.specs.Arranged.{behind, flat_back}
use Rattle.cells.specs.Sizes.{lower_bytes, revisions}
use Rattle.cells.specs.Parts.{size, layout_part}
use Rattle.cells.specs.Words.{byte}
use Rattle.cells.specs.Cells.{Cells, outs}
use Rattle.cells.specs.Decode.{cells}
use Rattle.cells.specs.Range.{in_range}
use Rattle.cells.proofs.Parts.{split_sized}
use Rattle.cells.proofs.Range.{ranges}

pub outs-length : (d : List ℕ) → length d ≡ lower_bytes → (cells d).out ≤ revisions → length (outs (cells d)) ≡ (cells d).out
unfolding cells size
outs-length d h o = let l = (split_sized d h).of layout_part in length-take-le (cells d).out (cells d).layout (omega arith)

pub outs_at : (k : Cells) (i : ℕ) → i < k.out → get_or (outs k) i 0 ≡ byte k.layout i
outs_at k i h = get_or-take k.out k.layout i 0 h

-- the revisions from a place on: that at the place, and those behind it; behind the last there are none
module _ (d : List ℕ) (h : length d ≡ lower_bytes) (g : in_range d ≡ true) where
  pub from_place : (i x : ℕ) → i < (cells d).out → x ≡ byte (cells d).layout i → drop i (outs (cells d)) ≡ x ∷ drop (i + 1) (outs (cells d))
  from_place i x l e =
      let n = outs-length d h (ranges d g).most_out in
      drop-cons (outs (cells d)) i 0 (omega arith) ∙ rw (outs_at (cells d) i l, e, add-one)

  pub past-places : (i : ℕ) → (cells d).out ≤ i → drop i (outs (cells d)) ≡ []
  past-places i l = let n = outs-length d h (ranges d g).most_out in drop_of_length-le (outs (cells d)) {i = i} (omega arith)

module _ (r : ℕ) (l : List ℕ) where
  pub sought_more : (j : ℕ) → j < length l → (get_or l j 0 ≡ r → ⊥) → behind r l ≡ behind r (drop j l) → behind r l ≡ behind r (drop (j + 1) l)
  unfolding behind
  sought_more j h n e = e ∙ ap (behind r) (drop-cons l j 0 h) ∙ rw (ne_eqb (get_or l j 0) r n, add-one)

  pub sought_found : (j : ℕ) → j < length l → get_or l j 0 ≡ r → behind r l ≡ behind r (drop j l) → behind r l ≡ drop (j + 1) l
  unfolding behind
  sought_found j h q e = e ∙ ap (behind r) (drop-cons l j 0 h) ∙ rw (eq-eqb (get_or l j 0) r q, add-one)

  pub sought_end : (j : ℕ) → length l ≤ j → behind r l ≡ behind r (drop j l) → behind r l ≡ drop (j + 1) l
  unfolding behind
  sought_end j h e = e ∙ rw (drop_of_length-le l {i = j} h, drop_of_length-le l {i = j + 1} (omega arith))

-- one block more, to the right of those that are there
pub block_more : (f : ℕ → List ℕ) (l : List ℕ) (i x : ℕ) → 0 < i → i ≤ length l → x ≡ get_or l (i - 1) 0 → flat_back f (drop i l) ++ f x ≡ flat_back f (drop (i - 1) l)
block_more f l zero x h g e = absurd (omega arith)
block_more f l (suc i) x h g e =
    let m : suc i - 1 ≡ i = omega arith in
    ap (λ z. flat_back f (drop (suc i) l) ++ f z) (e ∙ ap (λ j. get_or l j 0) m) ∙ sym (ap (λ j. flat_back f (drop j l)) m ∙ ap (flat_back f) (drop-cons l i 0 g))

pub no_block : (f : ℕ → List ℕ) (l : List ℕ) (i : ℕ) → length l ≤ i → [] ≡ flat_back f (drop i l)
no_block f l i h = sym (ap (flat_back f) (drop_of_length-le l {i = i} h))
