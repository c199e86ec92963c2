-- Revision diagrams and their paths: 002, section 3.1.
-- A diagram is the list of its vertices, newest first. A vertex is named by the number of vertices older than it.
use Rattle.std.specs.Prelude.{ℕ, ◌<◌, ◌≡◌, length}
use Rattle.std.proofs.Math.Option.{Option}
use mathlib.Core.List.{List, [], ◌∷◌, ◌++◌, Memᴰ}

-- "five types of vertices (start, fork, join, update, and query vertices)"; the root is the initial start vertex.
-- A vertex says where its edges come from. An event is entered by a client: an update has its number, a query has none.
pub data Vertex : Type 0 where
  root : Vertex
  start : (from : ℕ) → Vertex
  event : (before client : ℕ) (update : Option ℕ) → Vertex
  fork : (before : ℕ) → Vertex
  join : (joiner joinee : ℕ) → Vertex

abbrev pub Diagram : Type 0
Diagram = List Vertex

-- what is said of a vertex by what it comes after: the root nothing, a start its fork vertex, any other the vertex before it
abbrev pub by_origin : {A : Type 0} → A → (ℕ → A) → (ℕ → A) → Vertex → A
by_origin at_root at_start further root = at_root
by_origin at_root at_start further (start f) = at_start f
by_origin at_root at_start further (event p c u) = further p
by_origin at_root at_start further (fork p) = further p
by_origin at_root at_start further (join p q) = further p

-- and by what it brings: an event its update, a join the joinee's vertex, any other nothing
abbrev pub by_gain : {A : Type 0} → A → (Option ℕ → A) → (ℕ → A) → Vertex → A
by_gain nothing at_event at_join root = nothing
by_gain nothing at_event at_join (start f) = nothing
by_gain nothing at_event at_join (event p c u) = at_event u
by_gain nothing at_event at_join (fork p) = nothing
by_gain nothing at_event at_join (join p q) = at_join q

-- "three types of edges (successor, fork, and join edges, or s-, f- and j-edges for short)": where a vertex's edges of
-- each type come from
abbrev pub s_sources : Vertex → List ℕ
s_sources = by_origin [] (λ f. []) (λ p. p ∷ [])

abbrev pub f_sources : Vertex → List ℕ
f_sources = by_origin [] (λ f. f ∷ []) (λ p. [])

abbrev pub j_sources : Vertex → List ℕ
j_sources = by_gain [] (λ u. []) (λ q. q ∷ [])

abbrev pub sources : Vertex → List ℕ
sources v = s_sources v ++ f_sources v ++ j_sources v

-- an edge from x to y, by the sources of the vertices
pub data Edge (from : Vertex → List ℕ) (x y : ℕ) : Diagram → Type 0 where
  newest : {v : Vertex} {d : Diagram} → y ≡ length d → Memᴰ x (from v) → Edge from x y (v ∷ d)
  older : {v : Vertex} {d : Diagram} → Edge from x y d → Edge from x y (v ∷ d)

-- 01, "Words": "Path: as in 002, along any edges; from a vertex to itself there always is one".
pub data HasPath (d : Diagram) (x : ℕ) : ℕ → Type 0 where
  stay : {y : ℕ} → x ≡ y → x < length d → HasPath d x y
  go : {y z : ℕ} → HasPath d x y → Edge sources y z d → HasPath d x z

-- "We call a vertex with no outgoing s- or j-edges a terminal" (01: a line end)
pub record Terminal (d : Diagram) (x : ℕ) : Type 0 where
  pub vertex : x < length d
  pub no_s : (y : ℕ) → Edge s_sources x y d → ⊥
  pub no_j : (y : ℕ) → Edge j_sources x y d → ⊥
