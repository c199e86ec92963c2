-- What a vertex shows beyond an earlier one, by paths; and so 02, U1: a revision's own updates are those it took itself and those of revisions joined
-- into it.
use Rattle.std.specs.Prelude.{ℕ, ◌≡◌, ◌↔◌}
use Rattle.std.proofs.Math.Option.{some}
use mathlib.Core.List.{List, ◌++◌, Nodup}
use Rattle.lists.specs.Lists.{◌∈◌}
use Rattle.diagram.specs.Diagram.{Diagram, HasPath}
use Rattle.diagram.specs.Effects.{number}
use Rattle.diagram.specs.Views.{view}
use Rattle.diagram.specs.Day.{Day}

-- by paths: what vertex x of a diagram shows beyond what vertex z of an earlier one showed. It is listed behind that, and is
-- exactly what x sees and z did not, each update once.
pub record SeenSince (earlier : Diagram) (z : ℕ) (d : Diagram) (x : ℕ) (updates : List ℕ) : Type 0 where
  pub listed : view d x ≡ view earlier z ++ updates
  pub exactly : (n : ℕ) → (n ∈ updates) ↔ ((e : ℕ) × (number d e ≡ some n) × HasPath d e x × (HasPath earlier e z → ⊥))
  pub once : Nodup updates

-- 02, U1: "Updates inherited at its start don't count": what its terminal (01: line end) sees and its start vertex does not
abbrev pub OwnUpdates : Day → ℕ → List ℕ → Type 0
OwnUpdates y r updates = SeenSince y.diagram (y.start_of r) y.diagram (y.terminal r) updates
