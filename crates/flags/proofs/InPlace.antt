-- Rows of flags changed where they lie: some of the rows done, one row replaced, and the rows of a fork.
use Prim.Native.Nat.{ℕ, ◌+◌, ◌*◌, ◌-◌, ◌/◌, ◌%◌, ◌<◌, ◌≤◌}
use mathlib.Core.Bool.{Bool, true, false, cond, not, ◌||◌, ◌&&◌}
use mathlib.Core.Path.{◌≡◌, refl, sym, ◌∙◌, ap}
use mathlib.Core.List.{List, ◌++◌, append_assoc, append-nil}
use native.Mathlib.Omega.{arith}
use lib.Dec.{eqb, ltb}
use lib.ListN.{length, take, drop, drop_of_length-le, take-append-drop}
use lib.Seq.{drop_at, drop-drop, get_or-drop, get_or-take, take_at}
use borrow.Author.Tests.{eq-eqb, eqb-true, lt-ltb, ne_eqb}
use Rattle.lists.specs.Lists.{changed}
use Rattle.lists.specs.Arranged.{replaced}
use Rattle.lists.specs.Pool.{fork_pool}
use Rattle.lists.proofs.Cases.{cases}
use Rattle.lists.proofs.Replaced.{lent-replaced, lent-size}
use Rattle.cells.specs.Words.{byte}
use Rattle.cells.specs.Flags.{bit, byte_of, flag_at, flag_in, row_bytes, put_row, pack}
use Rattle.cells.specs.Tables.{tab}
use Rattle.cells.proofs.Tables.{tab-append, tab_same}
use Rattle.flags.proofs.Laws.{loaded_flag, pack-more, pack-none}
use Rattle.cells.proofs.Flags.{flag_row_bytes, pack-length, pack_same, packed, row_bytes_same}

-- rows behind rows
pub pack-append : (f : ℕ → ℕ → Bool) (m n : ℕ) → pack (m + n) f ≡ pack m f ++ pack n (λ i. f (m + i))
unfolding pack
pack-append f m n =
    let e : 8 * (m + n) ≡ 8 * m + 8 * n = omega arith in
    ap (tab _) e ∙ tab-append _ (8 * m) (8 * n)
    ∙ ap (λ z. tab (λ i. byte_of (λ j. f (i / 8) (8 * (i % 8) + j))) (8 * m) ++ z)
    (tab_same _ _ (8 * n) (λ i h. let d : (8 * m + i) / 8 ≡ m + i / 8 = omega arith in let r : (8 * m + i) % 8 ≡ i % 8 = omega arith in rw (d, r)))

-- x rows are done, and the others as they were
module _ (f : ℕ → ℕ → Bool) (t₀ t : List ℕ) (x : ℕ) (done : t ≡ pack x f ++ drop (8 * x) t₀) where
  front : take (8 * x) t ≡ pack x f
  front = ap (take (8 * x)) done ∙ take_at (pack x f) (drop (8 * x) t₀) (8 * x) (pack-length x f)

  back : drop (8 * x) t ≡ drop (8 * x) t₀
  back = ap (drop (8 * x)) done ∙ drop_at (pack x f) (drop (8 * x) t₀) (8 * x) (pack-length x f)

  -- m rows more
  pub done_more : (m : ℕ) (p : List ℕ) → p ≡ pack m (λ i. f (x + i)) → replaced t (8 * x) (8 * m) p ≡ pack (x + m) f ++ drop (8 * (x + m)) t₀
  done_more m p e =
      let a : 8 * (x + m) ≡ 8 * x + 8 * m = omega arith in
      let rest : drop (8 * x + 8 * m) t ≡ drop (8 * (x + m)) t₀ = sym (drop-drop (8 * m) (8 * x) t) ∙ ap (drop (8 * m)) back ∙ drop-drop (8 * m) (8 * x) t₀ ∙ ap (λ k. drop k t₀) (sym a) in
      rw (front, rest, e, pack-append f x m) (sym (append_assoc (pack x f) (pack m (λ i. f (x + i))) (drop (8 * (x + m)) t₀)))

  -- a flag of m rows that are not done, lent
  pub flag-lent : (n m i y : ℕ) → x + i < n → i < m → y < 64 → flag_in 8 m (take (8 * m) (drop (8 * x) t)) i y ≡ flag_in 8 n t₀ (x + i) y
  flag-lent n m i y l h g =
      let e : 8 * x + (8 * i + y / 8) ≡ 8 * (x + i) + y / 8 = omega arith in
      let k : 8 * i + y / 8 < 8 * m = omega arith in
      rw (lt-ltb (x + i) n l, lt-ltb i m h, lt-ltb y 64 g, back, get_or-take, get_or-drop, e)

pub none_done : (f : ℕ → ℕ → Bool) (t : List ℕ) → t ≡ pack 0 f ++ drop 0 t
none_done f t = ap (λ z. z ++ t) (pack-none f)

-- all are
pub all_done : (f : ℕ → ℕ → Bool) (t₀ t : List ℕ) (n : ℕ) → length t₀ ≡ 8 * n → t ≡ pack n f ++ drop (8 * n) t₀ → t ≡ pack n f
all_done f t₀ t n l e = e ∙ ap (λ z. pack n f ++ z) (drop_of_length-le t₀ {i = 8 * n} (omega arith)) ∙ append-nil (pack n f)

-- 64 rows without the flags of w
abbrev pub cleared : List ℕ → List ℕ → ℕ → ℕ → Bool
cleared t w x y = flag_in 8 64 t x y && not (flag_at w y)

-- sixteen rows more, lent
pub cleared_more : (t₀ w t q : List ℕ) (x : ℕ) → x + 16 ≤ 64 → t ≡ pack x (cleared t₀ w) ++ drop (8 * x) t₀
    → q ≡ pack 16 (λ i y. flag_in 8 16 (take (8 * x + 128 - 8 * x) (drop (8 * x) t)) i y && not (flag_at w y))
    → take (8 * x) t ++ (q ++ drop (8 * x + 128 - 8 * x) (drop (8 * x) t)) ≡ pack (x + 16) (cleared t₀ w) ++ drop (8 * (x + 16)) t₀
cleared_more t₀ w t q x l done e =
    lent-replaced t q _ (8 * x) 128 (rw (lent-size (8 * x) 128) at e)
    ∙ done_more (cleared t₀ w) t₀ t x done 16 _
    (pack_same 16 _ (λ i. cleared t₀ w (x + i)) (λ i y h g. ap (λ b. b && not (flag_at w y)) (flag-lent (cleared t₀ w) t₀ t x done 64 16 i y (omega arith) h g)))

-- row x of n rows replaced
module _ (n : ℕ) (f : ℕ → ℕ → Bool) (x : ℕ) (g : ℕ → Bool) (h : x < n) where
  new : ℕ → ℕ → Bool
  new = changed f x g

  first : pack n f ≡ pack x new ++ drop (8 * x) (pack n f)
  unfolding new
  first =
      let e : x + (n - x) ≡ n = omega arith in
      let split : pack n f ≡ pack x f ++ pack (n - x) (λ i. f (x + i)) = ap (λ k. pack k f) (sym e) ∙ pack-append f x (n - x) in
      let front : take (8 * x) (pack n f) ≡ pack x f = ap (take (8 * x)) split ∙ take_at (pack x f) _ (8 * x) (pack-length x f) in
      sym (take-append-drop (8 * x) (pack n f))
      ∙ ap (λ z. z ++ drop (8 * x) (pack n f)) (front ∙ pack_same x f (changed f x g) (λ i y l m. rw (ne_eqb i x (omega arith))))

  last : drop (8 * (x + 1)) (pack n f) ≡ pack (n - (x + 1)) (λ i. new (x + 1 + i))
  unfolding new
  last =
      let e : x + 1 + (n - (x + 1)) ≡ n = omega arith in
      ap (drop (8 * (x + 1))) (ap (λ k. pack k f) (sym e) ∙ pack-append f (x + 1) (n - (x + 1)))
      ∙ drop_at (pack (x + 1) f) _ (8 * (x + 1)) (pack-length (x + 1) f)
      ∙ pack_same (n - (x + 1)) _ (λ i. changed f x g (x + 1 + i)) (λ i y l m. rw (ne_eqb (x + 1 + i) x (omega arith)))

  here : row_bytes 8 g ≡ pack 1 (λ i. new (x + i))
  unfolding new
  here =
      row_bytes_same 8 g (changed f x g (x + 0)) (λ y l. rw (eq-eqb (x + 0) x (omega arith)))
      ∙ ap (λ z. z ++ row_bytes 8 (changed f x g (x + 0))) (pack-none _) ∙ sym (pack-more (λ i. changed f x g (x + i)) 0)

  pub put-pack : put_row 8 (pack n f) x g ≡ pack n (changed f x g)
  unfolding put_row new
  put-pack =
      let e : x + 1 + (n - (x + 1)) ≡ n = omega arith in
      done_more new (pack n f) (pack n f) x first 1 (row_bytes 8 g) here ∙ ap (λ z. pack (x + 1) new ++ z) last ∙ sym (pack-append new (x + 1) (n - (x + 1))) ∙ ap (λ k. pack k new) e

off-only : (a b : Bool) → (a && not b) ≡ cond b false a
off-only true true = refl
off-only true false = refl
off-only false true = refl
off-only false false = refl

on_only : (a b : Bool) → ((a && not b) || b) ≡ cond b true a
on_only true true = refl
on_only true false = refl
on_only false true = refl
on_only false false = refl

-- a fork: the column of c is cleared, row p is loaded and becomes row c, and with the column's flag it is row p again
module _ (t w row more : List ℕ) (p c : ℕ) (pl : p < 64) (cl : c < 64) (column : w ≡ row_bytes 8 (λ y. eqb y c))
    (loaded : row ≡ row_bytes 8 (λ y. bit (byte (pack 64 (cleared t w)) (8 * p + y / 8)) (y % 8))) (joined : more ≡ row_bytes 8 (λ y. flag_at row y || flag_at w y)) where
  of-column : (y : ℕ) → y < 64 → flag_at w y ≡ eqb y c
  of-column y h = ap (λ z. flag_at z y) column ∙ flag_row_bytes 8 (λ z. eqb z c) y h

  of_row : (y : ℕ) → y < 64 → flag_at row y ≡ (flag_in 8 64 t p y && not (eqb y c))
  of_row y h =
      let inside : (ltb p 64 && ltb y 64) ≡ true = rw (lt-ltb p 64 pl, lt-ltb y 64 h) in
      loaded_flag (pack 64 (cleared t w)) row p y pl h loaded ∙ packed 64 (cleared t w) p y ∙ ap (λ z. z && cleared t w p y) inside
      ∙ ap (λ z. flag_in 8 64 t p y && not z) (of-column y h)

  of-more : (y : ℕ) → y < 64 → flag_at more y ≡ ((flag_in 8 64 t p y && not (eqb y c)) || eqb y c)
  of-more y h = ap (λ z. flag_at z y) joined ∙ flag_row_bytes 8 (λ z. flag_at row z || flag_at w z) y h ∙ rw (of_row y h, of-column y h)

  each : (x y : ℕ) → x < 64 → y < 64 → changed (changed (cleared t w) c (flag_at row)) p (flag_at more) x y ≡ fork_pool (flag_in 8 64 t) p c x y
  each x y xl yl =
      cases (eqb x p)
      (λ r.
      let same : flag_in 8 64 t p y ≡ changed (flag_in 8 64 t) c (flag_in 8 64 t p) x y = cases (eqb x c) (λ u. rw u) (λ u. rw (u, eqb-true x p r)) in
      rw r (of-more y yl ∙ on_only (flag_in 8 64 t p y) (eqb y c) ∙ ap (cond (eqb y c) true) same))
      (λ r. rw r (cases (eqb x c)
      (λ u. rw u (of_row y yl ∙ off-only (flag_in 8 64 t p y) (eqb y c)))
      (λ u. rw u (ap (λ z. flag_in 8 64 t x y && not z) (of-column y yl) ∙ off-only (flag_in 8 64 t x y) (eqb y c)))))

  pub fork-stored : put_row 8 (put_row 8 (pack 64 (cleared t w)) c (flag_at row)) p (flag_at more) ≡ pack 64 (fork_pool (flag_in 8 64 t) p c)
  fork-stored =
      ap (λ z. put_row 8 z p (flag_at more)) (put-pack 64 (cleared t w) c (flag_at row) cl)
      ∙ put-pack 64 (changed (cleared t w) c (flag_at row)) p (flag_at more) pl ∙ pack_same 64 _ (fork_pool (flag_in 8 64 t) p c) each
