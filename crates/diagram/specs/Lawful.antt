-- 00, demand 2: "A step is taken exactly if that paper's construction and transaction rules .. and our stated limits allow
-- it". No test and no code is named here: a step is allowed if the run that ends with it keeps 002's rules, within the limits of 01 and 02.
use Rattle.std.specs.Prelude.{ℕ, ◌<◌, true, ◌≡◌}
use Rattle.std.proofs.Math.Option.{Option, none, some}
use mathlib.Core.List.{List, [], ◌∷◌, ◌++◌, Memᴰ}
use Rattle.lists.specs.Names.{Name}
use Rattle.lists.specs.Letters.{FourLetters}
use Rattle.diagram.specs.Sizes.{revision_limit, client_limit, update_limit}
use Rattle.diagram.specs.Construction.{Constructed}
use Rattle.diagram.specs.Day.{out_count}
use Rattle.diagram.specs.Steps.{Step, Event, Yield, Fork, Join, Drop, run}
use Rattle.diagram.specs.Witness.{ByTransactions}

-- a revision that was started, and not dropped. (Of a box handed in the paper's rules take no step: its last vertex is no terminal. That of a dropped
-- mark still is one.)
abbrev pub There : List Step → ℕ → Type 0
There before r = (r < (run before).revisions) × (Memᴰ (Drop r) before → ⊥)

-- 02, U9: a mark can "be listed and forked but not written, queried or joined, in either role"
abbrev pub Unmarked : List Step → ℕ → Type 0
Unmarked before r = (run before).mark r ≡ none

-- the name of a mark, if there is one, is of "four letters A to Z", and not in use
abbrev pub GoodName : List Step → Option Name → Type 0
GoodName before name = (n : Name) → name ≡ some n → FourLetters n × ((r : ℕ) → (run before).mark r ≡ some n → ⊥)

abbrev pub Marked : List Step → ℕ → Type 0
Marked before r = (n : Name) × ((run before).mark r ≡ some n)

-- 01, "Sizes of a day", and 02, U7 and U9: the limits, and that the step, after the steps `before`, names what there is
abbrev pub Within : List Step → Step → Type 0
Within before (Event c r u) = (c < client_limit) × There before r × Unmarked before r × (u ≡ true → (run before).updates < update_limit)
Within before (Yield c) = c < client_limit
Within before (Fork r name) = There before r × (out_count (run before) < revision_limit) × GoodName before name
Within before (Join a b) = There before a × There before b × Unmarked before a × Unmarked before b
Within before (Drop r) = Marked before r

-- Definition 6, with 01's join rule, and Definition 10, points 2 to 4. `run` enters every step, also one that is not accepted.
pub record Lawful (ss : List Step) : Type 0 where
  pub constructed : Constructed (run ss).diagram
  pub transacted : ByTransactions ss

-- step s may follow the steps `before`
abbrev pub MayFollow : List Step → Step → Type 0
MayFollow before s = Within before s × Lawful (before ++ (s ∷ []))

-- each step of a list may follow those before it
abbrev pub EachMayFollow : List Step → Type 0
EachMayFollow ss = (before rest : List Step) (s : Step) → ss ≡ before ++ (s ∷ rest) → MayFollow before s
