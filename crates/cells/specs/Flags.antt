-- No claim rests on this file: it serves the code.
-- Flags in bytes: eight to a byte, the first of them lowest; rows of w bytes, so of 8 * w flags.
use Rattle.std.specs.Prelude.{ℕ, ◌+◌, ◌*◌, ◌/◌, ◌%◌, ◌^◌, Bool, true, false, ◌&&◌, List, [], eqb, ltb, get_or}
use Rattle.lists.specs.Arranged.{replaced}
use Rattle.cells.specs.Tables.{tab}
use Rattle.cells.specs.Words.{byte}

abbrev pub bit : ℕ → ℕ → Bool
bit b k = eqb (b / 2 ^ k % 2) 1

-- flag y of row x; no flag outside n rows
abbrev pub flag_in : ℕ → ℕ → List ℕ → ℕ → ℕ → Bool
flag_in w n t x y = (ltb x n && ltb y (8 * w)) && bit (byte t (w * x + y / 8)) (y % 8)

abbrev pub worth : Bool → ℕ → ℕ
worth true w = w
worth false w = 0

-- eight flags as a byte
abbrev pub byte_of : (ℕ → Bool) → ℕ
byte_of f = worth (f 0) 1 + worth (f 1) 2 + worth (f 2) 4 + worth (f 3) 8 + worth (f 4) 16 + worth (f 5) 32 + worth (f 6) 64 + worth (f 7) 128

-- a row of flags as w bytes
unfoldable pub row_bytes : ℕ → (ℕ → Bool) → List ℕ
row_bytes w f = tab (λ i. byte_of (λ j. f (8 * i + j))) w

-- row x replaced
unfoldable pub put_row : ℕ → List ℕ → ℕ → (ℕ → Bool) → List ℕ
put_row w t x f = replaced t (w * x) w (row_bytes w f)

-- n rows of 64 flags as bytes
unfoldable pub pack : ℕ → (ℕ → ℕ → Bool) → List ℕ
pack n f = tab (λ i. byte_of (λ j. f (i / 8) (8 * (i % 8) + j))) (8 * n)

-- flag y of a row of bytes
abbrev pub flag_at : List ℕ → ℕ → Bool
flag_at t y = bit (byte t (y / 8)) (y % 8)

-- n rows of 64 flags as rows of eight bytes, which is how code has them by value; and a flag of such rows
unfoldable pub rows : ℕ → (ℕ → ℕ → Bool) → List (List ℕ)
rows n f = tab (λ x. row_bytes 8 (f x)) n

abbrev pub flag_of : List (List ℕ) → ℕ → ℕ → Bool
flag_of s x = flag_at (get_or s x [])
