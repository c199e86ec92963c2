-- 002, Definition 6, with the join rule of 01: the steps by which a revision diagram is made.
use Rattle.std.specs.Prelude.{ℕ, ◌≡◌, [], ◌∷◌, length}
use Rattle.std.proofs.Math.Option.{Option, some}
use Rattle.diagram.specs.Diagram.{root, start, event, fork, join, Diagram, HasPath, Terminal}
use Rattle.diagram.specs.Effects.{start_vertex, fork_vertex}

-- 01, "Diagram": "It is allowed only if a path leads from the fork vertex that started the joinee to the joiner's line
-- end, and none from the joinee's own start vertex." Definition 6 has only the first half. The main revision has no
-- fork vertex, and so is no joinee; the joiner sees its own start, and so is not its own joinee.
pub record Joinable (d : Diagram) (joiner joinee : ℕ) : Type 0 where
  pub started_by : ℕ
  pub is_fork : fork_vertex d joinee ≡ some started_by
  pub fork_seen : HasPath d started_by joiner
  pub start_unseen : HasPath d (start_vertex d joinee) joiner → ⊥

-- "a directed graph constructed by applying a .. sequence of the following construction steps .. to a single initial
-- start vertex (called the root)"
pub data Constructed : Diagram → Type 0 where
  rooted : Constructed (root ∷ [])
  -- Query, Update
  entered : {d : Diagram} {t : ℕ} → Constructed d → Terminal d t → (client : ℕ) (update : Option ℕ) → Constructed (event t client update ∷ d)
  -- Fork
  forked : {d : Diagram} {t : ℕ} → Constructed d → Terminal d t → Constructed (start (length d) ∷ fork t ∷ d)
  -- Join
  joined : {d : Diagram} {t t' : ℕ} → Constructed d → Terminal d t → Terminal d t' → Joinable d t t' → Constructed (join t t' ∷ d)
