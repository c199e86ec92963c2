-- Numbers of several bytes, "least significant first", of any width.
use Rattle.std.specs.Prelude.{ℕ, ◌+◌, ◌*◌, ◌/◌, ◌%◌, List, [], ◌∷◌, take, drop}

unfoldable pub number : List ℕ → ℕ
number [] = 0
number (b ∷ bytes) = b + 256 * number bytes

-- the number of `width` bytes from place `at` on
abbrev pub number_at : List ℕ → ℕ → ℕ → ℕ
number_at bytes at width = number (take width (drop at bytes))

-- the four bytes of a number, the other way round
abbrev pub word : ℕ → List ℕ
word x = x % 256 ∷ x / 256 % 256 ∷ x / 65536 % 256 ∷ x / 16777216 ∷ []
