-- 02, U12, the shared log: "the card for all four holds 8,192 updates. Each table may still hold 4,096 and has 1,024 assured." It knows no table.
use Rattle.std.specs.Prelude.{ℕ, Bool, cond, ltb}
use Rattle.lists.specs.Sums.{sum_below}

-- courses are 0 to 3
abbrev pub courses : ℕ
courses = 4

abbrev pub card : ℕ
card = 8192

abbrev pub assured : ℕ
assured = 1024

-- "the larger of 1,024 and its updates"
unfoldable pub larger : ℕ → ℕ
larger n = cond (ltb assured n) n assured

-- "the sum, over the four tables, of the larger of 1,024 and its updates"
unfoldable pub logged : (ℕ → ℕ) → ℕ
logged counts = sum_below courses (λ i. larger (counts i))

-- "would pass 8,192"
unfoldable pub passes : (ℕ → ℕ) → Bool
passes counts = ltb card (logged counts)
