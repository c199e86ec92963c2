-- Demand 2 on every run of accepted steps: the diagram is made by 002's steps with 01's join rule, and what is listed at a vertex is 002's
-- composition of effects.
use Rattle.std.specs.Prelude.{ℕ, ◌<◌, true, ◌≡◌, ◌↔◌, List, length}
use Rattle.diagram.specs.Diagram.{HasPath, Terminal}
use Rattle.diagram.specs.Leads.{leads}
use Rattle.diagram.specs.Construction.{Constructed}
use Rattle.diagram.specs.RootPaths.{Composed}
use Rattle.diagram.specs.Effects.{start_vertex}
use Rattle.diagram.specs.Day.{IsOut}
use Rattle.diagram.specs.Steps.{Step, run}

pub record ByRules (ss : List Step) : Type 0 where
  -- 002, Definition 6
  pub constructed : Constructed (run ss).diagram
  -- the test for a path, which the checks of 8 and 11 go by
  pub paths : (x y : ℕ) → (leads (run ss).diagram x y ≡ true) ↔ HasPath (run ss).diagram x y
  -- 01, "Words": "Line end: the last vertex of a box that is out (002: terminal)": it is a terminal, of the revision that started at the start vertex kept
  pub terminals : (r : ℕ) → IsOut (run ss) r → Terminal (run ss).diagram ((run ss).terminal r)
  pub starts : (r : ℕ) → r < (run ss).revisions → start_vertex (run ss).diagram ((run ss).terminal r) ≡ (run ss).start_of r
  -- 002, Definitions 8 and 9
  pub composed : (x : ℕ) → x < length (run ss).diagram → Composed (run ss).diagram x
