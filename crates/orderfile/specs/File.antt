-- 02, U13: an order of updates as a file: its header, when it is a bad list, its numbers; and an order written so.
use Rattle.std.specs.Prelude.{ℕ, ◌+◌, ◌*◌, ◌/◌, ◌%◌, Bool, not, ◌||◌, List, [], ◌∷◌, ◌++◌, eqb, ltb, length, drop}
use Rattle.lists.specs.Lists.{flat}
use Rattle.buffers.specs.Numbers.{number_at, word}

-- "a header of a count and an offset, 4 bytes each, .. all least significant byte first"
abbrev pub count : List ℕ → ℕ
count f = number_at f 0 4

abbrev pub offset : List ℕ → ℕ
offset f = number_at f 4 4

-- 21 "bad list, if the length or the offset is under 8, or offset + 2 times the count isn't the length"
unfoldable pub is_bad_list : List ℕ → Bool
is_bad_list f = ltb (length f) 8 || (ltb (offset f) 8 || not (eqb (offset f + 2 * count f) (length f)))

-- "then update numbers of 2 bytes"
unfoldable pub numbers_of : List ℕ → List ℕ
numbers_of [] = []
numbers_of (low ∷ []) = []
numbers_of (low ∷ high ∷ bytes) = (low + 256 * high) ∷ numbers_of bytes

unfoldable pub numbers_in : List ℕ → List ℕ
numbers_in f = numbers_of (drop (offset f) f)

-- an order "written so", the numbers right behind the header
abbrev pub in_two : ℕ → List ℕ
in_two n = n % 256 ∷ n / 256 ∷ []

unfoldable pub file_of : List ℕ → List ℕ
file_of ns = word (length ns) ++ (word 8 ++ flat in_two ns)
