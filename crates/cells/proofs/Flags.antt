-- Flags packed into bytes are read back: of one row replaced, and of all rows.
use Prim.Native.Nat.{ℕ, zero, suc, ◌+◌, ◌*◌, ◌/◌, ◌%◌, ◌<◌, ◌≤◌}
use mathlib.Core.Bool.{Bool, true, false, cond, ◌&&◌}
use mathlib.Core.Path.{◌≡◌, refl, sym, ◌∙◌, ap}
use mathlib.Core.List.{List, []}
use native.Mathlib.Omega.{arith}
use lib.Dec.{eqb, ltb}
use lib.ListN.{length, take, drop}
use lib.Seq.{get_or-take, get_or-drop}
use borrow.Author.Tests.{eqb-true, eqb-false, ltb-true, lt-ltb}
use Rattle.lists.specs.Arranged.{replaced}
use Rattle.lists.proofs.Cases.{cases, and-true}
use Rattle.lists.proofs.Replaced.{replaced-length, replaced-here, replaced-other, next_row}
use Rattle.cells.specs.Words.{byte}
use Rattle.cells.specs.Flags.{bit, flag_in, worth, byte_of, row_bytes, put_row, pack, flag_at, rows, flag_of}
use Rattle.cells.proofs.Tables.{length-tab, get_or-tab, tab_same}

at_most_one : (b : Bool) → worth b 1 ≤ 1
at_most_one true = omega arith
at_most_one false = omega arith

times : (b : Bool) (w : ℕ) → worth b w ≡ w * worth b 1
times true w = omega arith
times false w = omega arith

is_one : (b : Bool) → eqb (worth b 1) 1 ≡ b
is_one true = refl
is_one false = refl

-- each binary digit of a sum of eight
abbrev sum : ℕ → ℕ → ℕ → ℕ → ℕ → ℕ → ℕ → ℕ → ℕ
sum a b c d e f g h = 1 * a + 2 * b + 4 * c + 8 * d + 16 * e + 32 * f + 64 * g + 128 * h

digits : (a b c d e f g h : ℕ) → a ≤ 1 → b ≤ 1 → c ≤ 1 → d ≤ 1 → e ≤ 1 → f ≤ 1 → g ≤ 1 → h ≤ 1
    → (sum a b c d e f g h / 1 % 2 ≡ a) × (sum a b c d e f g h / 2 % 2 ≡ b) × (sum a b c d e f g h / 4 % 2 ≡ c) × (sum a b c d e f g h / 8 % 2 ≡ d)
    × (sum a b c d e f g h / 16 % 2 ≡ e) × (sum a b c d e f g h / 32 % 2 ≡ f) × (sum a b c d e f g h / 64 % 2 ≡ g) × (sum a b c d e f g h / 128 % 2 ≡ h)
digits a b c d e f g h p q r s t u v w = (omega arith, omega arith, omega arith, omega arith, omega arith, omega arith, omega arith, omega arith)

module _ (f : ℕ → Bool) where
  d : ℕ → ℕ
  d m = worth (f m) 1

  as-sum : byte_of f ≡ sum (d 0) (d 1) (d 2) (d 3) (d 4) (d 5) (d 6) (d 7)
  unfolding d
  as-sum = rw (times (f 1) 2, times (f 2) 4, times (f 3) 8, times (f 4) 16, times (f 5) 32, times (f 6) 64, times (f 7) 128) (omega arith)

  all : (byte_of f / 1 % 2 ≡ d 0) × (byte_of f / 2 % 2 ≡ d 1) × (byte_of f / 4 % 2 ≡ d 2) × (byte_of f / 8 % 2 ≡ d 3) × (byte_of f / 16 % 2 ≡ d 4) × (byte_of f / 32 % 2 ≡ d 5) × (byte_of f / 64 % 2 ≡ d 6) × (byte_of f / 128 % 2 ≡ d 7)
  unfolding d
  all = rw as-sum (digits (d 0) (d 1) (d 2) (d 3) (d 4) (d 5) (d 6) (d 7) (at_most_one (f 0)) (at_most_one (f 1)) (at_most_one (f 2)) (at_most_one (f 3)) (at_most_one (f 4)) (at_most_one (f 5)) (at_most_one (f 6)) (at_most_one (f 7)))

  -- a byte's bits are the flags that it was made of
  pub bit_byte : (m : ℕ) → m < 8 → bit (byte_of f) m ≡ f m
  unfolding d
  bit_byte zero h = ap (λ x. eqb x 1) all.0 ∙ is_one (f 0)
  bit_byte (suc zero) h = ap (λ x. eqb x 1) all.1 ∙ is_one (f 1)
  bit_byte (suc (suc zero)) h = ap (λ x. eqb x 1) all.2 ∙ is_one (f 2)
  bit_byte (suc (suc (suc zero))) h = ap (λ x. eqb x 1) all.3 ∙ is_one (f 3)
  bit_byte (suc (suc (suc (suc zero)))) h = ap (λ x. eqb x 1) all.4 ∙ is_one (f 4)
  bit_byte (suc (suc (suc (suc (suc zero))))) h = ap (λ x. eqb x 1) all.5 ∙ is_one (f 5)
  bit_byte (suc (suc (suc (suc (suc (suc zero)))))) h = ap (λ x. eqb x 1) all.6 ∙ is_one (f 6)
  bit_byte (suc (suc (suc (suc (suc (suc (suc zero))))))) h = ap (λ x. eqb x 1) all.7 ∙ is_one (f 7)
  bit_byte (suc (suc (suc (suc (suc (suc (suc (suc m)))))))) h = absurd (omega arith)

pub row_bytes-length : (w : ℕ) (f : ℕ → Bool) → length (row_bytes w f) ≡ w
unfolding row_bytes
row_bytes-length w f = length-tab (λ i. byte_of (λ j. f (8 * i + j))) w

-- a row of flags as bytes is read back
pub flag_row_bytes : (w : ℕ) (f : ℕ → Bool) (y : ℕ) → y < 8 * w → flag_at (row_bytes w f) y ≡ f y
unfolding row_bytes
flag_row_bytes w f y h =
    let e : 8 * (y / 8) + y % 8 ≡ y = omega arith in
    ap (λ b. bit b (y % 8)) (get_or-tab (λ i. byte_of (λ j. f (8 * i + j))) w (y / 8) 0 (omega arith)) ∙ bit_byte (λ j. f (8 * (y / 8) + j)) (y % 8) (omega arith) ∙ ap f e

-- byte i of row x
in_row : (w : ℕ) (t : List ℕ) (x i : ℕ) → i < w → byte (take w (drop (w * x) t)) i ≡ byte t (w * x + i)
in_row w t x i h = rw (get_or-take, get_or-drop)

module _ (w n : ℕ) (t : List ℕ) (r : ℕ) (f : ℕ → Bool) (size : length t ≡ w * n) (rl : r < n) where
  fits : w * r + w ≤ length t
  fits = let m = next_row w r n rl in omega arith

  pub put_row-length : length (put_row w t r f) ≡ length t
  unfolding put_row
  put_row-length = replaced-length t (row_bytes w f) (w * r) w fits (row_bytes-length w f)

  other_byte : (x i : ℕ) → (x ≡ r → ⊥) → i < w → byte (put_row w t r f) (w * x + i) ≡ byte t (w * x + i)
  unfolding put_row
  other_byte x i d h =
      sym (in_row w (put_row w t r f) x i h) ∙ ap (λ z. byte z i) (replaced-other t (row_bytes w f) w r x fits (row_bytes-length w f) d) ∙ in_row w t x i h

  row-bit : (y : ℕ) → y < 8 * w → bit (byte (put_row w t r f) (w * r + y / 8)) (y % 8) ≡ f y
  unfolding put_row
  row-bit y h =
      ap (λ b. bit b (y % 8)) (sym (in_row w (put_row w t r f) r (y / 8) (omega arith)) ∙ ap (λ z. byte z (y / 8)) (replaced-here t (row_bytes w f) (w * r) w fits (row_bytes-length w f)))
      ∙ flag_row_bytes w f y h

  -- the flags after row r was replaced
  pub flag-row : (x y : ℕ) → flag_in w n (put_row w t r f) x y ≡ cond (eqb x r) (ltb y (8 * w) && f y) (flag_in w n t x y)
  flag-row x y =
      cases (ltb y (8 * w))
      (λ e. cases (eqb x r)
      (λ q. rw (e, q, eqb-true x r q, lt-ltb r n rl) (row-bit y (ltb-true y (8 * w) e)))
      (λ q. rw (e, q) (let l = ltb-true y (8 * w) e in ap (λ b. (ltb x n && true) && bit b (y % 8)) (other_byte x (y / 8) (eqb-false x r q) (omega arith)))))
      (λ e. rw e (cases (eqb x r) (λ q. rw (q, eqb-true x r q, lt-ltb r n rl)) (λ q. rw q (cases (ltb x n) (λ z. rw z) (λ z. rw z)))))

-- flags that are false outside n rows of 64
abbrev pub Within : ℕ → (ℕ → ℕ → Bool) → Type 0
Within n f = (x y : ℕ) → (ltb x n && ltb y 64) ≡ false → f x y ≡ false

pub flags_within : (n : ℕ) (t : List ℕ) → Within n (flag_in 8 n t)
flags_within n t x y e = rw e

pub pack-length : (n : ℕ) (f : ℕ → ℕ → Bool) → length (pack n f) ≡ 8 * n
unfolding pack
pack-length n f = length-tab (λ i. byte_of (λ j. f (i / 8) (8 * (i % 8) + j))) (8 * n)

-- the flags of packed flags: the same, inside n rows of 64
pub packed : (n : ℕ) (f : ℕ → ℕ → Bool) (x y : ℕ) → flag_in 8 n (pack n f) x y ≡ ((ltb x n && ltb y 64) && f x y)
unfolding pack
packed n f x y = cases (ltb x n && ltb y 64) inner (λ e. rw e)
  where
    g : ℕ → ℕ
    g i = byte_of (λ j. f (i / 8) (8 * (i % 8) + j))

    inner : (ltb x n && ltb y 64) ≡ true → flag_in 8 n (pack n f) x y ≡ ((ltb x n && ltb y 64) && f x y)
    inner e =
        let l = ltb-true x n (and-true (ltb x n) (ltb y 64) e).0 in
        let m = ltb-true y 64 (and-true (ltb x n) (ltb y 64) e).1 in
        let i : (8 * x + y / 8) / 8 ≡ x = omega arith in
        let j : (8 * x + y / 8) % 8 ≡ y / 8 = omega arith in
        let u : 8 * (y / 8) + y % 8 ≡ y = omega arith in
        rw e
        (ap (λ b. bit b (y % 8)) (get_or-tab g (8 * n) (8 * x + y / 8) 0 (omega arith))
        ∙ bit_byte (λ v. f ((8 * x + y / 8) / 8) (8 * ((8 * x + y / 8) % 8) + v)) (y % 8) (omega arith)
        ∙ ap (λ z. f z (8 * ((8 * x + y / 8) % 8) + y % 8)) i ∙ ap (λ z. f x (8 * z + y % 8)) j ∙ ap (f x) u)

pub flag_pack : (n : ℕ) (f : ℕ → ℕ → Bool) → Within n f → (x y : ℕ) → flag_in 8 n (pack n f) x y ≡ f x y
flag_pack n f out x y = packed n f x y ∙ cases (ltb x n && ltb y 64) (λ e. rw e) (λ e. rw e (sym (out x y e)))

-- only the flags inside count
pub byte_same : (f g : ℕ → Bool) → ((j : ℕ) → j < 8 → f j ≡ g j) → byte_of f ≡ byte_of g
byte_same f g h = rw (h 0 (omega arith), h 1 (omega arith), h 2 (omega arith), h 3 (omega arith), h 4 (omega arith), h 5 (omega arith), h 6 (omega arith), h 7 (omega arith))

pub pack_same : (n : ℕ) (f g : ℕ → ℕ → Bool) → ((x y : ℕ) → x < n → y < 64 → f x y ≡ g x y) → pack n f ≡ pack n g
unfolding pack
pack_same n f g h = tab_same _ _ (8 * n) (λ i l. byte_same (λ j. f (i / 8) (8 * (i % 8) + j)) (λ j. g (i / 8) (8 * (i % 8) + j)) (λ j m. h (i / 8) (8 * (i % 8) + j) (omega arith) (omega arith)))

pub row_bytes_same : (w : ℕ) (f g : ℕ → Bool) → ((y : ℕ) → y < 8 * w → f y ≡ g y) → row_bytes w f ≡ row_bytes w g
unfolding row_bytes
row_bytes_same w f g h = tab_same _ _ w (λ i l. byte_same (λ j. f (8 * i + j)) (λ j. g (8 * i + j)) (λ j m. h (8 * i + j) (omega arith)))

pub put_row_same : (w : ℕ) (t : List ℕ) (x : ℕ) (f g : ℕ → Bool) → ((y : ℕ) → y < 8 * w → f y ≡ g y) → put_row w t x f ≡ put_row w t x g
unfolding put_row
put_row_same w t x f g h = ap (replaced t (w * x) w) (row_bytes_same w f g h)

-- rows by value
pub flag_rows : (n : ℕ) (f : ℕ → ℕ → Bool) (x y : ℕ) → x < n → y < 64 → flag_of (rows n f) x y ≡ f x y
unfolding rows
flag_rows n f x y h g = ap (λ r. flag_at r y) (get_or-tab (λ z. row_bytes 8 (f z)) n x [] h) ∙ flag_row_bytes 8 (f x) y g
