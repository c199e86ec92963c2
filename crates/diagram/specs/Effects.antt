-- What is said of the vertices of a diagram one by one: 002, section 3.1. What they list is in specs/Views.
use Rattle.std.specs.Prelude.{ℕ, cond, List, [], ◌∷◌, length, eqb}
use Rattle.std.proofs.Math.Option.{Option, none, some}
use Rattle.lists.specs.Lists.{flat}
use Rattle.diagram.specs.Diagram.{Vertex, Diagram, by_origin, by_gain}

-- a value for each vertex, from its own form, the older diagram and the values there
module _ {A : Type 0} (step : Diagram → (ℕ → A) → Vertex → A) (outside : A) where
  unfoldable pub tabulate : Diagram → ℕ → A
  tabulate [] x = outside
  tabulate (v ∷ d) x = cond (eqb x (length d)) (step d (λ p. tabulate d p) v) (tabulate d x)

-- the update that an event applies: a query applies none
abbrev pub entry : Option ℕ → List ℕ
entry none = []
entry (some n) = n ∷ []

-- "For any vertex x we let S(x) be the start vertex of the revision that x belongs to"
abbrev pub start_vertex : Diagram → ℕ → ℕ
start_vertex = tabulate (λ d S. by_origin (length d) (λ f. length d) S) 0

-- "For any vertex x whose start vertex S(x) is not the root, we define F(x) to be the fork vertex .. that started the
-- revision x belongs to"
abbrev pub fork_vertex : Diagram → ℕ → Option ℕ
fork_vertex = tabulate (λ d F. by_origin none some F) none

-- the number of an update vertex; the updates among some events, by their numbers
abbrev pub number : Diagram → ℕ → Option ℕ
number = tabulate (λ d f. by_gain none (λ u. u) (λ q. none)) none

abbrev pub numbers : Diagram → List ℕ → List ℕ
numbers d events = flat (λ e. entry (number d e)) events
