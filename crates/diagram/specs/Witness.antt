-- What the day keeps of a run's events and yields: 01, "Words": "A tablet's events between yields form one transaction",
-- and 002, Definition 10, points 2 to 4. (Point 1, the answers, is in crate plain.)
-- An event entered after the steps `before` is the vertex `next_vertex before`.
use Rattle.std.specs.Prelude.{ℕ, ◌<◌, Bool, ◌≡◌, ◌↔◌}
use Rattle.std.proofs.Math.Option.{none, some}
use mathlib.Core.List.{List, ◌∷◌, ◌++◌, Memᴰ}
use Rattle.lists.specs.Lists.{◌∈◌}
use Rattle.diagram.specs.Diagram.{s_sources, Edge, HasPath, Terminal}
use Rattle.diagram.specs.Day.{Day}
use Rattle.diagram.specs.Steps.{Step, Event, Yield, run, next_vertex}
use Rattle.diagram.specs.Arbitration.{events_of}

-- event x is in transaction t, and t is client c's, on revision r
pub record EnteredIn (y : Day) (x c r t : ℕ) : Type 0 where
  pub known : t < y.transactions
  pub has : x ∈ events_of y t
  pub own : (y.transaction t).client ≡ c
  pub on : (y.transaction t).revision ≡ r

-- the yield that closed transaction t, n vertices being there
pub record YieldOf (ss : List Step) (t n : ℕ) : Type 0 where
  pub before : List Step
  pub rest : List Step
  pub client : ℕ
  pub is : ss ≡ before ++ (Yield client ∷ rest)
  pub was_open : (run before).open_by client ≡ some t
  pub at : n ≡ next_vertex before

abbrev pub NoEvent : ℕ → List Step → Type 0
NoEvent c ss = (r : ℕ) (u : Bool) → Memᴰ (Event c r u) ss → ⊥

abbrev pub NoYield : ℕ → List Step → Type 0
NoYield c ss = Memᴰ (Yield c) ss → ⊥

-- 002, Definition 10: what a diagram must satisfy to be a witness for the history of a run. (Point 1, the answers, is in
-- crate plain.) The history of client c is its events and yields; x is an event after
-- `before`, y a later one of the same client, with the steps `middle` between them.
pub record ByTransactions (ss : List Step) : Type 0 where
  -- 2: "If x, y are two successive non-yield operations .. then they must be connected by a s-edge."
  pub successive : (before middle rest : List Step) (c r q : ℕ) (u w : Bool) → ss ≡ before ++ (Event c r u ∷ (middle ++ (Event c q w ∷ rest)))
      → NoEvent c middle → NoYield c middle → Edge s_sources (next_vertex before) (next_vertex (before ++ (Event c r u ∷ middle))) (run ss).diagram
  -- 3: "If x is the last event .. and not a yield, then it must be a terminal."
  pub last_open : (before rest : List Step) (c r : ℕ) (u : Bool) → ss ≡ before ++ (Event c r u ∷ rest)
      → NoEvent c rest → NoYield c rest → Terminal (run ss).diagram (next_vertex before)
  -- 4: "If x, y are two operations preceding and succeeding some yield .. then there must exist a path from x to y."
  pub in_sequence : (before middle rest : List Step) (c r q : ℕ) (u w : Bool) → ss ≡ before ++ (Event c r u ∷ (middle ++ (Event c q w ∷ rest)))
      → Memᴰ (Yield c) middle → HasPath (run ss).diagram (next_vertex before) (next_vertex (before ++ (Event c r u ∷ middle)))

pub record Witness (ss : List Step) : Type 0 where
  -- an event is in a transaction of its client, which is open until the client's next yield
  pub recorded : (before rest : List Step) (c r : ℕ) (u : Bool) → ss ≡ before ++ (Event c r u ∷ rest)
      → (t : ℕ) × EnteredIn (run ss) (next_vertex before) c r t × ((((run ss).transaction t).closed ≡ none) ↔ NoYield c rest)
  -- a later event of the client is in the same transaction exactly if there is no yield between
  pub together : (before middle rest : List Step) (c r q : ℕ) (u w : Bool) → ss ≡ before ++ (Event c r u ∷ (middle ++ (Event c q w ∷ rest)))
      → (t : ℕ) × EnteredIn (run ss) (next_vertex before) c r t × ((next_vertex (before ++ (Event c r u ∷ middle)) ∈ events_of (run ss) t) ↔ NoYield c middle)
  -- a transaction is closed by a yield of its client, where that came
  pub yielded : (t n : ℕ) → ((run ss).transaction t).closed ≡ some n → YieldOf ss t n
  -- a client's open transaction is the one of its own that is not closed
  pub opened : (c t : ℕ) → ((run ss).open_by c ≡ some t) ↔ ((t < (run ss).transactions) × (((run ss).transaction t).client ≡ c) × (((run ss).transaction t).closed ≡ none))
  -- Definition 10, points 2 to 4
  pub points : ByTransactions ss
