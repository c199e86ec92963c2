-- Of the claims only `StaysTable` (crate consistency) and those of `table` specs/Light rest on this file; else it serves the code.
-- Numbers in bytes: words of two bytes, the low byte first; half bytes; links, of a byte and a half byte each; names of four bytes.
use Rattle.std.specs.Prelude.{ℕ, ◌+◌, ◌*◌, ◌/◌, ◌%◌, ◌<◌, cond, List, [], ◌∷◌, eqb, get_or, set}

abbrev pub byte : List ℕ → ℕ → ℕ
byte t i = get_or t i 0

-- what a list lent as bytes is
abbrev pub Bytes : List ℕ → Type 0
Bytes t = (i : ℕ) → byte t i < 256

unfoldable pub word : List ℕ → ℕ → ℕ
word t r = byte t (2 * r) + 256 * byte t (2 * r + 1)

unfoldable pub put_word : List ℕ → ℕ → ℕ → List ℕ
put_word t r v = set (set t (2 * r) (v % 256)) (2 * r + 1) (v / 256)

-- two half bytes to a byte, the even one low
unfoldable pub half : List ℕ → ℕ → ℕ
half t u = cond (eqb (u % 2) 0) (byte t (u / 2) % 16) (byte t (u / 2) / 16)

unfoldable pub put_half : List ℕ → ℕ → ℕ → List ℕ
put_half t u v = set t (u / 2) (cond (eqb (u % 2) 0) (byte t (u / 2) / 16 * 16 + v) (byte t (u / 2) % 16 + 16 * v))

-- the link of update u: its low 8 bits in `low`, its high 4 bits in `high`
abbrev pub link_in : List ℕ → List ℕ → ℕ → ℕ
link_in low high u = byte low u + 256 * half high u

-- names, four bytes each
abbrev pub name_in : List ℕ → ℕ → List ℕ
name_in t r = byte t (4 * r) ∷ byte t (4 * r + 1) ∷ byte t (4 * r + 2) ∷ byte t (4 * r + 3) ∷ []

unfoldable pub put_name : List ℕ → ℕ → List ℕ → List ℕ
put_name t r n = set (set (set (set t (4 * r) (byte n 0)) (4 * r + 1) (byte n 1)) (4 * r + 2) (byte n 2)) (4 * r + 3) (byte n 3)
