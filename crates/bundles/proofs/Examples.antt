-- Records at the ends of their ranges, and bundles at the edges of what is one, computed.
use Prim.Native.Nat.{ℕ}
use mathlib.Core.Path.{◌≡◌, refl}
use mathlib.Core.List.{List, [], ◌∷◌}
use lib.ListN.{replicate}
use mathlib.Core.Bool.{true, false}
use Rattle.buffers.specs.Numbers.{number}
use Rattle.bundles.specs.Records.{entry_in, is_wrong}
use Rattle.bundles.specs.Packed.{record_of, rows}

largest : entry_in (255 ∷ 9 ∷ 255 ∷ 255 ∷ 255 ∷ 255 ∷ 255 ∷ 255 ∷ 1 ∷ 2 ∷ 3 ∷ 4 ∷ []) ≡ record { kind = 255; bib = 65535; v = 4294967295 }
unfolding number
largest = refl

-- "their tablet and number aren't looked at"
not-looked_at : (c d : ℕ) (n m : List ℕ) → entry_in (1 ∷ c ∷ 7 ∷ 0 ∷ 72 ∷ 238 ∷ 0 ∷ 0 ∷ n) ≡ entry_in (1 ∷ d ∷ 7 ∷ 0 ∷ 72 ∷ 238 ∷ 0 ∷ 0 ∷ m)
unfolding number
not-looked_at c d n m = refl

-- the lowest byte first; client and number are 0
a_record : record_of (record { kind = 3; bib = 999; v = 5000 }) ≡ 3 ∷ 0 ∷ 231 ∷ 3 ∷ 136 ∷ 19 ∷ 0 ∷ 0 ∷ 0 ∷ 0 ∷ 0 ∷ 0 ∷ []
unfolding record_of
a_record = refl

none : is_wrong [] ≡ true
unfolding is_wrong
none = refl

one : is_wrong (replicate 12 0) ≡ false
unfolding is_wrong
one = refl

one-byte-more : is_wrong (replicate 13 0) ≡ true
unfolding is_wrong
one-byte-more = refl

sixty_four : is_wrong (replicate 768 0) ≡ false
unfolding is_wrong
sixty_four = refl

sixty_five : is_wrong (replicate 780 0) ≡ true
unfolding is_wrong
sixty_five = refl

-- the records of 64 updates, and bytes behind the last whole record are in none
all_rows : rows (replicate 768 0) ≡ replicate 64 (replicate 12 0)
all_rows = refl

whole-only : rows (replicate 13 0) ≡ replicate 12 0 ∷ []
whole-only = refl
