-- The entries of a bundle, whose records hold them; one that is not wrong has a first.
use Prim.Native.Nat.{ℕ, zero, suc, ◌+◌, ◌*◌, ◌/◌, ◌%◌, ◌<◌, ◌≤◌}
use mathlib.Core.Bool.{false, not}
use mathlib.Core.Path.{◌≡◌, refl, ◌∙◌, ap}
use mathlib.Core.List.{List, ◌∷◌}
use native.Mathlib.Omega.{arith}
use lib.Dec.{eqb, ltb}
use lib.ListN.{length, drop}
use borrow.Author.Tests.{eqb-false, ltb-false}
use Rattle.std.proofs.lemmas.List.{drop-drop}
use Rattle.std.specs.Simd.{first_chunks}
use Rattle.lists.proofs.Cases.{or-false}
use Rattle.bundles.specs.declared.entry.Entry.{Entry}
use Rattle.bundles.specs.Records.{entries_from, entries_in, entry_at, is_wrong}
use Rattle.bundles.specs.Packed.{held, rows}

pub some_of : (b : List ℕ) (n : ℕ) → (n ≡ 0 → ⊥) → (es : List Entry) × (entries_from b 0 n ≡ entry_at b 0 ∷ es)
unfolding entries_from
some_of b zero h = absurd (h refl)
some_of b (suc n) h = (entries_from b 1 n, refl)

pub first_entry : (b : List ℕ) → is_wrong b ≡ false → (es : List Entry) × (entries_in b ≡ entry_at b 0 ∷ es)
unfolding entries_in is_wrong
first_entry b h =
    let o = (or-false (not (eqb (length b % 12) 0)) _ h).1 in
    some_of b (length b / 12) (eqb-false (length b / 12) 0 (or-false (eqb (length b / 12) 0) _ o).0)

-- the records from the i-th on hold the entries from there on
from_rows : (k i : ℕ) (b : List ℕ) → held (first_chunks 12 k (drop (12 * i) b)) ≡ entries_from b i k
unfolding entries_from
from_rows zero i b = refl
from_rows (suc k) i b =
    let e : 12 * i + 12 ≡ 12 * suc i = omega arith in
    ap (λ ps. entry_at b i ∷ held (first_chunks 12 k ps)) (drop-drop 12 (12 * i) b ∙ ap (λ n. drop n b) e) ∙ ap (λ es. entry_at b i ∷ es) (from_rows k (suc i) b)

-- the records hold the bytes' entries
pub rows-entries : (b : List ℕ) → held (rows b) ≡ entries_in b
unfolding entries_in
rows-entries b = from_rows (length b / 12) 0 b

pub so_many : (k : ℕ) (b : List ℕ) → length (first_chunks 12 k b) ≡ k
so_many zero b = refl
so_many (suc k) b = ap suc (so_many k (drop 12 b))

-- the records of a bundle
pub record Counted (rs : List (List ℕ)) : Type 0 where
  pub some : 0 < length rs
  pub most : length rs ≤ 64

pub counted : (b : List ℕ) → is_wrong b ≡ false → Counted (rows b)
unfolding is_wrong
counted b e =
    let o = (or-false (not (eqb (length b % 12) 0)) _ e).1 in
    let p = or-false (eqb (length b / 12) 0) (ltb 64 (length b / 12)) o in
    let z = eqb-false (length b / 12) 0 p.0 in
    let m = ltb-false 64 (length b / 12) p.1 in
    let n = so_many (length b / 12) b in
    record { some = omega (arith, z); most = omega arith }
