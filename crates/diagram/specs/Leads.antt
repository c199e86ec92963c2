-- Whether a path leads from x to y, as a test. It need not be believed: it is `HasPath`, in the diagram of every run (`ByRules.paths`, specs/Rules).
use Rattle.std.specs.Prelude.{ℕ, Bool, false, cond, ◌||◌, List, [], ◌∷◌, length, eqb}
use Rattle.diagram.specs.Diagram.{Diagram, sources}

abbrev pub any_of : (ℕ → Bool) → List ℕ → Bool
any_of f [] = false
any_of f (p ∷ ps) = f p || any_of f ps

unfoldable pub leads : Diagram → ℕ → ℕ → Bool
leads [] x y = false
leads (v ∷ d) x y = cond (eqb y (length d)) (eqb x y || any_of (λ p. leads d x p) (sources v)) (leads d x y)
