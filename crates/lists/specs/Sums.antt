-- The numbers below a number: the sum of a function's values, whether a test holds of some of them, and of which last.
use Rattle.std.specs.Prelude.{ℕ, zero, suc, ◌+◌, Bool, false, cond, ◌||◌}

abbrev pub sum_below : ℕ → (ℕ → ℕ) → ℕ
sum_below zero f = 0
sum_below (suc n) f = sum_below n f + f n

unfoldable pub any_below : ℕ → (ℕ → Bool) → Bool
any_below zero f = false
any_below (suc n) f = f n || any_below n f

-- the last of them of which a test holds; 0 where it holds of none
abbrev pub last_below : ℕ → (ℕ → Bool) → ℕ
last_below zero f = 0
last_below (suc n) f = cond (f n) n (last_below n f)
