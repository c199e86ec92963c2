-- At how many places two lists differ: 02, U11, "differ from its former bytes at no more than 256 places".
use Rattle.std.specs.Prelude.{ℕ, suc, ◌+◌, cond, ◌≡◌, refl, List, [], ◌∷◌, eqb, length}

abbrev pub differ : ℕ → ℕ → ℕ
differ x y = cond (eqb x y) 0 1

-- place by place; a place that only one of the lists has counts too
unfoldable pub differences : List ℕ → List ℕ → ℕ
differences [] b = length b
differences (x ∷ a) [] = suc (length a)
differences (x ∷ a) (y ∷ b) = differ x y + differences a b

-- the second place differs, and the two at the end are of one list alone
example : differences (7 ∷ 8 ∷ 9 ∷ []) (7 ∷ 0 ∷ 9 ∷ 9 ∷ 9 ∷ []) ≡ 3
unfolding differences
example = refl
