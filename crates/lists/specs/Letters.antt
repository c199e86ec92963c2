-- Names of four letters: 02, U9. A name is lent as bytes, of any number and value.
use Rattle.std.specs.Prelude.{ℕ, ◌≤◌, ◌≡◌, List, length}
use Rattle.lists.specs.Lists.{◌∈◌}

abbrev pub Name : Type 0
Name = List ℕ

-- "a name of four letters A to Z": A to Z are the bytes 65 to 90
abbrev pub FourLetters : Name → Type 0
FourLetters n = (length n ≡ 4) × ((b : ℕ) → b ∈ n → (65 ≤ b) × (b ≤ 90))
