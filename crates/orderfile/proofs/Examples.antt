-- Files at the edges of what is a bad list, an order written and read, and small orders that fit and that do not, computed.
use Prim.Native.Nat.{ℕ, zero, suc, ◌%◌}
use mathlib.Core.Bool.{Bool, true, false}
use mathlib.Core.Path.{◌≡◌, refl}
use mathlib.Core.List.{List, [], ◌∷◌, ◌++◌}
use lib.Dec.{eqb}
use Rattle.lists.specs.Sums.{any_below}
use Rattle.buffers.specs.Numbers.{number}
use Rattle.orderfile.specs.File.{is_bad_list, numbers_of, numbers_in, file_of}
use Rattle.orderfile.specs.Test.{no_other, none_twice, is_complete, place_from, rises, in_order, fits}

abbrev header : ℕ → ℕ → List ℕ
header n offset = n ∷ 0 ∷ 0 ∷ 0 ∷ offset ∷ 0 ∷ 0 ∷ 0 ∷ []

empty : is_bad_list (header 0 8) ≡ false
unfolding is_bad_list number
empty = refl

seven_bytes : is_bad_list (0 ∷ 0 ∷ 0 ∷ 0 ∷ 8 ∷ 0 ∷ 0 ∷ []) ≡ true
unfolding is_bad_list number
seven_bytes = refl

offset_7 : is_bad_list (header 0 7) ≡ true
unfolding is_bad_list number
offset_7 = refl

one-byte-more : is_bad_list (header 1 8 ++ (0 ∷ 0 ∷ 0 ∷ [])) ≡ true
unfolding is_bad_list number
one-byte-more = refl

-- 2 times a count of 2 ^ 31 is 0 modulo 2 ^ 32
no_wrap : is_bad_list (0 ∷ 0 ∷ 0 ∷ 128 ∷ 8 ∷ 0 ∷ 0 ∷ 0 ∷ []) ≡ true
unfolding is_bad_list number
no_wrap = refl

-- bytes between header and numbers aren't looked at; the low byte comes first
a_gap : (x y : ℕ) → numbers_in (header 2 10 ++ (x ∷ y ∷ 1 ∷ 0 ∷ 0 ∷ 1 ∷ [])) ≡ 1 ∷ 256 ∷ []
unfolding numbers_in numbers_of number
a_gap x y = refl

written : file_of (1 ∷ 256 ∷ []) ≡ header 2 8 ++ (1 ∷ 0 ∷ 0 ∷ 1 ∷ [])
unfolding file_of
written = refl

-- three updates; boxes 0 and 2 are out and list 0, 2 and 1, 2; box 1 was handed in, and its list does not count
abbrev outs : ℕ → Bool
outs r = eqb (r % 2) 0

abbrev lists : ℕ → List ℕ
lists zero = 0 ∷ 2 ∷ []
lists (suc zero) = 2 ∷ 0 ∷ []
lists (suc (suc r)) = 1 ∷ 2 ∷ []

abbrev verdict : List ℕ → Bool
verdict ns = fits 3 3 outs lists ns

either_way : (verdict (0 ∷ 1 ∷ 2 ∷ []) ≡ true) × (verdict (1 ∷ 0 ∷ 2 ∷ []) ≡ true)
unfolding fits is_complete no_other none_twice in_order any_below rises place_from
either_way = (refl, refl)

-- update 0 twice and 1 missing; a number missing; a number too high; nothing
incomplete : (verdict (0 ∷ 0 ∷ 2 ∷ []) ≡ false) × (verdict (0 ∷ 2 ∷ []) ≡ false) × (verdict (0 ∷ 1 ∷ 2 ∷ 3 ∷ []) ≡ false) × (verdict [] ≡ false)
unfolding fits is_complete no_other none_twice in_order any_below rises place_from
incomplete = (refl, refl, refl, refl)

-- complete, but box 0 is out of order; box 2 is
disordered : (verdict (1 ∷ 2 ∷ 0 ∷ []) ≡ false) × (verdict (0 ∷ 2 ∷ 1 ∷ []) ≡ false)
unfolding fits is_complete no_other none_twice in_order any_below rises place_from
disordered = (refl, refl)
