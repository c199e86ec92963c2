-- 002, Definitions 7 to 9, word by word: the root-path of a vertex, the effect of a vertex, and that `view` and `own` are the
-- effects along such paths.
use Rattle.std.specs.Prelude.{ℕ, ◌<◌, ◌≡◌, List, [], ◌∷◌, ◌++◌, length}
use Rattle.lists.specs.Lists.{flat}
use Rattle.diagram.specs.Diagram.{Vertex, Diagram, by_gain, s_sources, f_sources, Edge}
use Rattle.diagram.specs.Effects.{tabulate, entry, start_vertex}
use Rattle.diagram.specs.Views.{own, view}

-- Definition 8, of one vertex: "If x is a start, fork, or query vertex, the effect is a no-op"; an update vertex has its update; "If x
-- is a join vertex, then the effect is the composition of all effects in the joined revision"
abbrev pub effect_step : Diagram → (ℕ → List ℕ) → Vertex → List ℕ
effect_step d effect = by_gain [] entry (own d)

abbrev pub effect : Diagram → ℕ → List ℕ
effect = tabulate effect_step []

-- the vertices of a path from a to x along some edges, in order
pub data Trail (d : Diagram) (from : Vertex → List ℕ) (a : ℕ) : ℕ → List ℕ → Type 0 where
  alone : a < length d → Trail d from a a (a ∷ [])
  onward : {x y : ℕ} {xs : List ℕ} → Trail d from a x xs → Edge from x y d → Trail d from a y (xs ++ (y ∷ []))

-- no j-edges
abbrev pub sf_sources : Vertex → List ℕ
sf_sources v = s_sources v ++ f_sources v

-- Definition 9: the effects along "the unique path from the root to v that does not contain j-edges"; and those of a joined revision, from
-- its start along its own s-edges
pub record Composed (d : Diagram) (x : ℕ) : Type 0 where
  pub root_path : List ℕ
  pub from_root : Trail d sf_sources 0 x root_path
  pub only_root : (xs : List ℕ) → Trail d sf_sources 0 x xs → xs ≡ root_path
  pub view_is : view d x ≡ flat (effect d) root_path
  pub revision_path : List ℕ
  pub from_start : Trail d s_sources (start_vertex d x) x revision_path
  pub own_is : own d x ≡ flat (effect d) revision_path
