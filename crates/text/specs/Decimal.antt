-- A number in decimal, the most significant digit first, with no zero in front. The digits are those of the library `io`.
use Rattle.std.specs.Prelude.{ℕ, zero, suc, ◌/◌, cond, List, [], ◌∷◌, ◌++◌, ltb}
use Rattle.io.specs.Digits.{last_digits}

-- how many digits n has; `more` is how many there can be behind the first
unfoldable pub places : ℕ → ℕ → ℕ
places zero n = 1
places (suc more) n = cond (ltb n 10) 1 (suc (places more (n / 10)))

-- 64 bits have at most 20 digits
unfoldable pub decimal : ℕ → List ℕ
decimal n = last_digits 10 (places 19 n) n

-- a number and the byte behind it
abbrev pub ended : ℕ → ℕ → List ℕ
ended n mark = decimal n ++ (mark ∷ [])
