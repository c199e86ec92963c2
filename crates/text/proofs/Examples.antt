-- Text and numbers as bytes, computed.
use mathlib.Core.Path.{◌≡◌, refl}
use mathlib.Core.List.{[], ◌∷◌}
use Rattle.text.specs.Placed.{placed, ascii}
use Rattle.text.specs.Decimal.{places, decimal, ended}

bad : ascii "bad\n" ≡ 98 ∷ 97 ∷ 100 ∷ 10 ∷ []
bad = refl

none : decimal 0 ≡ ascii "0"
unfolding decimal places
none = refl

nine : decimal 9 ≡ ascii "9"
unfolding decimal places
nine = refl

ten : decimal 10 ≡ ascii "10"
unfolding decimal places
ten = refl

largest : decimal 18446744073709551615 ≡ ascii "18446744073709551615"
unfolding decimal places
largest = refl

in_the_middle : placed (ascii "0123456789") 3 (ended 65000 32) ≡ ascii "01265000 9"
unfolding placed decimal places
in_the_middle = refl
