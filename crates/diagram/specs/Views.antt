-- What a vertex lists, worked out vertex by vertex. It need not be believed: `Composed` (specs/RootPaths) says what `own` and `view` are, by 002's Definitions
-- 7 to 9, and is claimed of every vertex of every run (`ByRules.composed`, specs/Rules).
use Rattle.std.specs.Prelude.{ℕ, List, [], ◌++◌}
use Rattle.diagram.specs.Diagram.{Vertex, root, start, event, fork, join, Diagram}
use Rattle.diagram.specs.Effects.{tabulate, entry}

-- Definition 8: the effects of a vertex's revision from its start to that vertex, in order. "If x is a start, fork, or
-- query vertex, the effect is a no-op"; an update vertex has its update; "If x is a join vertex, then the effect is the
-- composition of all effects in the joined revision": the joiner's come first.
abbrev pub own_step : Diagram → (ℕ → List ℕ) → Vertex → List ℕ
own_step d own root = []
own_step d own (start f) = []
own_step d own (event p c u) = own p ++ entry u
own_step d own (fork p) = own p
own_step d own (join p q) = own p ++ own q

abbrev pub own : Diagram → ℕ → List ℕ
own = tabulate own_step []

-- Definition 9: the effects along the root-path, "the unique path from the root to v that does not contain j-edges".
-- This is the listing of a vertex; a path-result applies it to the fresh values.
abbrev pub view_step : Diagram → (ℕ → List ℕ) → Vertex → List ℕ
view_step d view root = []
view_step d view (start f) = view f
view_step d view (event p c u) = view p ++ entry u
view_step d view (fork p) = view p
view_step d view (join p q) = view p ++ own d q

abbrev pub view : Diagram → ℕ → List ℕ
view = tabulate view_step []
