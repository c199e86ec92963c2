-- Of the claims only `StaysTable` (crate consistency) rests on this file; else it serves the code.
-- The bytes as parts in a row: docs/CELLS.md, "The parts". No other definition says where a part lies.
use Rattle.std.specs.Prelude.{ℕ, zero, suc, ◌+◌, ◌≡◌, List, [], ◌∷◌, ◌++◌, length, take, drop, get_or}
use Rattle.lists.specs.Lists.{changed}

-- each part by its number; no part but these has bytes
abbrev pub Parts : Type 0
Parts = ℕ → List ℕ

abbrev pub rows_part : ℕ
rows_part = 0

abbrev pub low_part : ℕ
low_part = 1

abbrev pub high_part : ℕ
high_part = 2

abbrev pub seen_part : ℕ
seen_part = 3

abbrev pub caught_part : ℕ
caught_part = 4

abbrev pub state_part : ℕ
state_part = 5

abbrev pub used_part : ℕ
used_part = 6

abbrev pub last_part : ℕ
last_part = 7

abbrev pub first_part : ℕ
first_part = 8

abbrev pub count_part : ℕ
count_part = 9

abbrev pub base_part : ℕ
base_part = 10

abbrev pub layout_part : ℕ
layout_part = 11

abbrev pub queue_part : ℕ
queue_part = 12

abbrev pub opened_part : ℕ
opened_part = 13

abbrev pub counters_part : ℕ
counters_part = 14

abbrev pub names_part : ℕ
names_part = 15

abbrev pub single_part : ℕ
single_part = 16

abbrev pub settled_part : ℕ
settled_part = 17

abbrev pub started_part : ℕ
started_part = 18

abbrev pub kept_part : ℕ
kept_part = 19

abbrev pub signature_part : ℕ
signature_part = 20

abbrev pub parts : ℕ
parts = 21

-- how many bytes a part has, and how many lie before it
abbrev pub sizes : List ℕ
sizes = 32256 ∷ 4096 ∷ 2048 ∷ 512 ∷ 128 ∷ 64 ∷ 64 ∷ 128 ∷ 128 ∷ 128 ∷ 128 ∷ 64 ∷ 64 ∷ 16 ∷ 4 ∷ 256 ∷ 1 ∷ 2 ∷ 2 ∷ 863 ∷ 8 ∷ []

unfoldable pub size : ℕ → ℕ
size i = get_or sizes i 0

unfoldable pub offset : ℕ → ℕ
offset zero = 0
offset (suc i) = offset i + size i

-- the first n parts in a row
unfoldable pub in_row : Parts → ℕ → List ℕ
in_row p zero = []
in_row p (suc n) = in_row p n ++ p n

unfoldable pub glue : Parts → List ℕ
glue p = in_row p parts

unfoldable pub split : List ℕ → Parts
split d i = take (size i) (drop (offset i) d)

-- every part has its size
pub record Sized (p : Parts) : Type 0 where
  pub of : (i : ℕ) → length (p i) ≡ size i

-- the parts with another in place of part i
infixl 60 ◌⟨◌≔◌⟩
abbrev pub ◌⟨◌≔◌⟩ : Parts → ℕ → List ℕ → Parts
p ⟨ i ≔ l ⟩ = changed p i l

-- the bytes with another part i
abbrev pub wrote : List ℕ → ℕ → List ℕ → List ℕ
wrote d i l = glue (split d ⟨ i ≔ l ⟩)
