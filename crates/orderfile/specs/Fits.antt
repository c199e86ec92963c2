-- 02, U13: what a yes says. Of a day it is said by its revisions and what their terminals see, of a table by its cells.
use Rattle.std.specs.Prelude.{ℕ, ◌<◌}
use mathlib.Core.List.{List, Nodup}
use Rattle.lists.specs.Lists.{◌∈◌, ◌⊑◌}

-- so many updates taken, which boxes are out, and the listed updates of each; the numbers of a file
pub record Fits (taken : ℕ) (Out : ℕ → Type 0) (listed : ℕ → List ℕ) (numbers : List ℕ) : Type 0 where
  -- "it has every update taken today exactly once, no other number"
  pub every : (u : ℕ) → u < taken → u ∈ numbers
  pub once : Nodup numbers
  pub no_other : (u : ℕ) → u ∈ numbers → u < taken
  -- "every box out has its listed updates standing in it in the listed order"
  pub in_order : (r : ℕ) → Out r → listed r ⊑ numbers
