-- What is claimed of a day and one line-up of its transactions: 01, "The plain day and its line-up", from "On it:" on, without calls and values.
-- It speaks of the day's own vertices and paths alone. 01's line-up is 002's arbitration order.
use Rattle.std.specs.Prelude.{ℕ, ◌<◌, ◌≤◌, ◌≡◌, ◌⊎◌, ◌↔◌, length}
use Rattle.std.proofs.Math.Option.{Option, some}
use mathlib.Core.List.{List, [], ◌∷◌, ◌++◌, Nodup}
use Rattle.lists.specs.Lists.{◌∈◌, ◌⊑◌, flat, Only}
use Rattle.diagram.specs.Diagram.{Vertex, event, Diagram, HasPath}
use Rattle.diagram.specs.Effects.{number, numbers}
use Rattle.diagram.specs.Views.{view}
use Rattle.diagram.specs.Day.{Day, IsOut}

-- 01, "Words": "Event: a taken update or query", by its vertex
pub data IsEvent (x : ℕ) : Diagram → Type 0 where
  newest_is : {p c : ℕ} {u : Option ℕ} {d : Diagram} → x ≡ length d → IsEvent x (event p c u ∷ d)
  older_is : {v : Vertex} {d : Diagram} → IsEvent x d → IsEvent x (v ∷ d)

abbrev pub events_of : Day → ℕ → List ℕ
events_of y t = (y.transaction t).events

-- "A vertex sees each vertex from which a path leads to it."
abbrev pub Sees : Day → ℕ → ℕ → Type 0
Sees y x e = HasPath y.diagram e x

-- "A transaction sees another if one of its events sees one of the other's."
pub record SeesTransaction (y : Day) (t s : ℕ) : Type 0 where
  pub later : ℕ
  pub earlier : ℕ
  pub later_in : later ∈ events_of y t
  pub earlier_in : earlier ∈ events_of y s
  pub path : Sees y later earlier

-- `updates` are "the updates it sees, and no others, .. each once, in line-up order, and as entered within a transaction"
pub record Shows (y : Day) (order : List ℕ) (x : ℕ) (updates : List ℕ) : Type 0 where
  pub seen : List ℕ
  pub exactly : Only (Sees y x) (flat (events_of y) order) seen
  pub are : updates ≡ numbers y.diagram seen

-- the updates taken are numbered from 0 to n - 1, in the order entered
pub record Numbered (d : Diagram) (n : ℕ) : Type 0 where
  pub inside : (e k : ℕ) → number d e ≡ some k → e < length d
  pub low : (e k : ℕ) → number d e ≡ some k → k < n
  pub rising : (e f k m : ℕ) → number d e ≡ some k → number d f ≡ some m → e < f → k < m
  pub all : (k : ℕ) → k < n → (e : ℕ) × (number d e ≡ some k)

-- of transaction t the vertex x sees all events, or none
abbrev pub AllSeen : Day → ℕ → ℕ → Type 0
AllSeen y t x = (e : ℕ) → e ∈ events_of y t → Sees y x e

abbrev pub NoneSeen : Day → ℕ → ℕ → Type 0
NoneSeen y t x = (e : ℕ) → e ∈ events_of y t → Sees y x e → ⊥

-- the yield of t came when there were at most n vertices
pub record YieldedBy (y : Day) (t n : ℕ) : Type 0 where
  pub at : ℕ
  pub is : (y.transaction t).closed ≡ some at
  pub soon : at ≤ n

-- "sees all its events or none, and any only if its yield came before": from a vertex x, n vertices being there
abbrev pub WholeAt : Day → ℕ → ℕ → ℕ → Type 0
WholeAt y t x n = NoneSeen y t x ⊎ (AllSeen y t x × YieldedBy y t n)

-- "For a box that stays out, the list before a call begins the list after it."
abbrev pub Extends : Day → Day → Type 0
Extends y z =
    (r : ℕ) → IsOut y r → IsOut z r
    → (more : List ℕ) × (view z.diagram (z.terminal r) ≡ view y.diagram (y.terminal r) ++ more)

-- one line-up of the day's transactions, at its end
pub record Explains (y : Day) (order : List ℕ) : Type 0 where
  -- "A line-up has every transaction once, open ones and those of queries alone too."
  pub once : Nodup order
  pub complete : (t : ℕ) → (t ∈ order) ↔ (t < y.transactions)
  -- every event is in one transaction, once
  pub entered : (x : ℕ) → IsEvent x y.diagram ↔ ((t : ℕ) × (t < y.transactions) × (x ∈ events_of y t))
  pub one_each : Nodup (flat (events_of y) order)
  -- "the updates taken, numbered from 0": so the order has every update once
  pub numbered : Numbered y.diagram y.updates
  pub updates_once : Nodup (numbers y.diagram (flat (events_of y) order))
  pub updates_all : (n : ℕ) → (n ∈ numbers y.diagram (flat (events_of y) order)) ↔ (n < y.updates)
  -- 00, demand 3: "each stands after all others that it sees"
  pub after_seen : (s t : ℕ) → s < y.transactions → t < y.transactions → (s ≡ t → ⊥) → SeesTransaction y t s → (s ∷ t ∷ []) ⊑ order
  -- "The visible updates of a box are those its line end sees, in the listing's order, busy or not": of every box out they "stand in listed order"
  pub visible : (r : ℕ) → IsOut y r → Shows y order (y.terminal r) (view y.diagram (y.terminal r))
  pub in_order : (r : ℕ) → IsOut y r → view y.diagram (y.terminal r) ⊑ numbers y.diagram (flat (events_of y) order)
  -- "A vertex outside a transaction sees all its events or none, and any only if its yield came before the vertex."
  pub whole : (t x : ℕ) → t < y.transactions → x < length y.diagram → (x ∈ events_of y t → ⊥) → WholeAt y t x x
  -- "Each event of a tablet's later transaction sees each event of its earlier ones."
  pub sessions : (s t e f : ℕ) → s < t → t < y.transactions → (y.transaction s).client ≡ (y.transaction t).client → e ∈ events_of y s → f ∈ events_of y t → Sees y f e
