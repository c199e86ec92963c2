-- Flags in bytes: with one row changed they differ at its 8 bytes at most, with one column at a byte a row.
use Prim.Native.Nat.{ℕ, zero, suc, ◌+◌, ◌*◌, ◌/◌, ◌%◌, ◌≤◌}
use mathlib.Core.Bool.{Bool}
use mathlib.Core.Path.{◌≡◌, refl, sym, ◌∙◌, ap, subst}
use mathlib.Core.List.{List, [], ◌∷◌, ◌++◌}
use native.Mathlib.Nat.{mul-suc}
use native.Mathlib.Omega.{arith}
use lib.Dec.{eqb}
use lib.ListN.{length}
use Rattle.lists.specs.Differences.{differ, differences}
use Rattle.lists.specs.Lists.{changed}
use Rattle.lists.specs.Pool.{fork_pool}
use Rattle.lists.specs.Sums.{sum_below}
use Rattle.lists.proofs.Changed.{changed-other}
use Rattle.lists.proofs.Differences.{differ-most, differ_same, differences-append, differences_by, differences-length, differences_same}
use Rattle.lists.proofs.Sums.{sum_one, sum_ones}
use Rattle.cells.specs.Tables.{tab}
use Rattle.cells.specs.Words.{Bytes}
use Rattle.cells.specs.Flags.{byte_of, flag_in, row_bytes, pack}
use Rattle.cells.specs.CellSteps.{fork_caught, join_caught}
use Rattle.cells.proofs.Tables.{length-tab, tab-append, tab_same}
use Rattle.cells.proofs.Flags.{byte_same, pack-length, row_bytes-length}
use Rattle.cells.proofs.Bytes.{packed_flags}

tab-differences : (f g : ℕ → ℕ) (n : ℕ) → differences (tab f n) (tab g n) ≡ sum_below n (λ i. differ (f i) (g i))
unfolding tab differences
tab-differences f g zero = refl
tab-differences f g (suc n) =
    let h = differences-append (tab f n) (tab g n) (f n ∷ []) (g n ∷ []) (length-tab f n ∙ sym (length-tab g n)) in
    let r = tab-differences f g n in
    omega arith

-- row by row
pack-more : (n : ℕ) (f : ℕ → ℕ → Bool) → pack (suc n) f ≡ pack n f ++ row_bytes 8 (f n)
unfolding pack row_bytes
pack-more n f =
    let at : ℕ → ℕ = λ i. byte_of (λ j. f (i / 8) (8 * (i % 8) + j)) in
    ap (tab at) (mul-suc 8 n) ∙ tab-append at (8 * n) 8
    ∙ ap (λ z. tab at (8 * n) ++ z) (tab_same (λ i. at (8 * n + i)) (λ i. byte_of (λ j. f n (8 * i + j))) 8 (λ i l.
    let q : (8 * n + i) / 8 ≡ n = omega arith in
    let r : (8 * n + i) % 8 ≡ i = omega arith in
    rw (q, r)))

pack-none : (f g : ℕ → ℕ → Bool) → differences (pack 0 f) (pack 0 g) ≡ 0
unfolding pack tab
pack-none f g = differences_same []

pack-differences : (n : ℕ) (f g : ℕ → ℕ → Bool) → differences (pack n f) (pack n g) ≡ sum_below n (λ x. differences (row_bytes 8 (f x)) (row_bytes 8 (g x)))
pack-differences zero f g = pack-none f g
pack-differences (suc n) f g =
    let h = differences-append (pack n f) (pack n g) (row_bytes 8 (f n)) (row_bytes 8 (g n)) (pack-length n f ∙ sym (pack-length n g)) in
    let r = pack-differences n f g in
    rw (pack-more n f, pack-more n g) (omega arith)

row_light : (n a : ℕ) (f : ℕ → ℕ → Bool) (row : ℕ → Bool) → differences (pack n f) (pack n (changed f a row)) ≤ 8
row_light n a f row =
    let new = changed f a row in
    let each : ℕ → ℕ = λ x. differences (row_bytes 8 (f x)) (row_bytes 8 (new x)) in
    let s = sum_one n a each (λ x o. ap (λ z. differences (row_bytes 8 (f x)) (row_bytes 8 z)) (changed-other f a row x o) ∙ differences_same (row_bytes 8 (f x))) in
    let l = row_bytes-length 8 (f a) in
    let m = differences-length (row_bytes 8 (f a)) (row_bytes 8 (new a)) (l ∙ sym (row_bytes-length 8 (new a))) in
    rw (pack-differences n f new) (omega arith)

-- one flag is in one byte
flag_light : (c : ℕ) (f : ℕ → Bool) (v : Bool) → differences (row_bytes 8 f) (row_bytes 8 (changed f c v)) ≤ 1
unfolding row_bytes
flag_light c f v =
    let old : ℕ → ℕ = λ i. byte_of (λ j. f (8 * i + j)) in
    let new : ℕ → ℕ = λ i. byte_of (λ j. changed f c v (8 * i + j)) in
    let same : (i : ℕ) → (i ≡ c / 8 → ⊥) → old i ≡ new i = λ i o. byte_same _ _ (λ j l. sym (changed-other f c v (8 * i + j) (λ q. o (omega arith)))) in
    let s = sum_one 8 (c / 8) (λ i. differ (old i) (new i)) (λ i o. differ_same (old i) (new i) (same i o)) in
    let m = differ-most (old (c / 8)) (new (c / 8)) in
    rw (tab-differences old new 8) (omega arith)

column_light : (n c : ℕ) (f : ℕ → ℕ → Bool) (v : ℕ → Bool) → differences (pack n f) (pack n (λ x. changed (f x) c (v x))) ≤ n
column_light n c f v = rw (pack-differences n f (λ x. changed (f x) c (v x))) (sum_ones n _ (λ x. flag_light c (f x) (v x)))

-- what the steps do to n rows of flags that stand in t
module _ (n : ℕ) (t : List ℕ) (l : length t ≡ 8 * n) (b : Bytes t) where
  from-flags : (g : ℕ → ℕ → Bool) (m : ℕ) → differences (pack n (flag_in 8 n t)) (pack n g) ≤ m → differences t (pack n g) ≤ m
  from-flags g m h = subst (λ z. differences z (pack n g) ≤ m) (packed_flags n t l b) h

  pub join-caught-light : (a c : ℕ) → differences t (pack n (join_caught (flag_in 8 n t) a c)) ≤ n
  join-caught-light a c = from-flags _ n (column_light n a (flag_in 8 n t) _)

  pub fork-caught-light : (p c : ℕ) → differences t (pack n (fork_caught (flag_in 8 n t) p c)) ≤ n
  fork-caught-light p c = from-flags _ n (column_light n c (flag_in 8 n t) _)

  pub fork-seen-light : (p c : ℕ) → differences t (pack n (fork_pool (flag_in 8 n t) p c)) ≤ 8 + n
  fork-seen-light p c =
      let f = flag_in 8 n t in
      let g = changed f c (f p) in
      let r = row_light n c f (f p) in
      let k = column_light n c g (λ x. eqb x p) in
      let s = differences_by (pack n f) (pack n g) (pack n (fork_pool f p c)) in
      from-flags _ (8 + n) (omega arith)
