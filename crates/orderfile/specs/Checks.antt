-- No claim rests on this file: it serves the code. What the check of a file finds, and places as the code keeps them.
use Rattle.std.specs.Prelude.{ℕ, Bool, true, cond, ◌≡◌, List, Option, Some, None, get_or}
use Rattle.orderfile.specs.File.{is_bad_list, offset}
use Rattle.orderfile.specs.Test.{is_complete, place_in}

unfoldable pub list_check : List ℕ → Option ℕ
list_check f = cond (is_bad_list f) None (Some (offset f))

-- the place of u among the places kept, 0 where none is kept
abbrev pub place_at : List ℕ → ℕ → ℕ
place_at places u = get_or places u 0

-- what is found of the numbers of an order: whether they are complete, and then the place of each
pub record PlacesOf (taken : ℕ) (ns places : List ℕ) (r : Bool) : Type 0 where
  pub is : r ≡ is_complete taken ns
  pub each : r ≡ true → (u : ℕ) → place_at places u ≡ place_in ns u
