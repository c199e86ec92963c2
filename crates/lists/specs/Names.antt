-- Tests of names. They need not be believed: a mark is taken exactly if its name is of `FourLetters` and not in use (`LineUp.exactly`, crate plain), and a name
-- means the mark that bears it (`ByMarks.means`, crate diagram).
use Rattle.std.specs.Prelude.{Bool, true, false, ◌&&◌, [], ◌∷◌, length, eqb, ltb}
pub use Rattle.lists.specs.Letters.{Name}

abbrev pub all_letters : Name → Bool
all_letters [] = true
all_letters (b ∷ n) = (ltb 64 b && ltb b 91) && all_letters n

unfoldable pub four_letters : Name → Bool
four_letters n = eqb (length n) 4 && all_letters n

abbrev pub same_name : Name → Name → Bool
same_name [] [] = true
same_name [] (b ∷ m) = false
same_name (a ∷ n) [] = false
same_name (a ∷ n) (b ∷ m) = eqb a b && same_name n m
