-- The header, and when a file is bad.
use Rattle.std.specs.Prelude.{ℕ, ◌+◌, ◌*◌, Bool, cond, not, ◌||◌, List, Option, Some, None, eqb, ltb, length}
use Rattle.buffers.specs.Numbers.{number_at}

-- "a header of a count and an offset, 4 bytes each, least significant first: steps n, and where the first record begins"
abbrev pub step_count : List ℕ → ℕ
step_count f = number_at f 0 4

abbrev pub offset : List ℕ → ℕ
offset f = number_at f 4 4

-- "If the length is under 8 or above 65,536, the offset under 8, or offset + 12 n isn't the length"
abbrev pub is_bad : List ℕ → Bool
is_bad f = ltb (length f) 8 || (ltb 65536 (length f) || (ltb (offset f) 8 || not (eqb (offset f + 12 * step_count f) (length f))))

unfoldable pub file_check : List ℕ → Option ℕ
file_check f = cond (is_bad f) None (Some (step_count f))
