-- No claim rests on this file: it serves the code.
-- A list put behind the first n entries of a buffer: 4,096 entries at most, and the rest of the buffer stays.
use Rattle.std.specs.Prelude.{ℕ, Bool, cond, ◌||◌, ◌≡◌, List, [], ◌∷◌, ◌++◌, ltb, length, take, drop}
use Rattle.cells.specs.Sizes.{updates}

abbrev pub front : List ℕ → ℕ → List ℕ → List ℕ
front before n l = take updates (take n before ++ l)

pub record Added (before : List ℕ) (n : ℕ) (l after : List ℕ) (m : ℕ) : Type 0 where
  pub many : m ≡ length (front before n l)
  pub eq : after ≡ front before n l ++ drop m before

-- the entry at place i of a list of which the first b count, and of the others those that pass
abbrev pub offered : ℕ → (ℕ → Bool) → ℕ → ℕ → List ℕ
offered b f i x = cond (ltb i b || f x) (x ∷ []) []
