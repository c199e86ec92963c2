-- No claim rests on this file: it serves the proofs. The tests of a step's codes as one answer; what it decides is said here by `TakenExactly`, and of
-- each call, without it, by `Allowed` (crate plain).
use Rattle.std.specs.Prelude.{ℕ, ◌<◌, Bool, true, false, not, ◌&&◌, ◌≡◌, ◌↔◌, List, [], ◌∷◌, ◌++◌, ltb}
use Rattle.std.proofs.Math.Option.{Option, none, some}
use Rattle.lists.specs.Names.{Name}
use Rattle.diagram.specs.Sizes.{client_limit}
use Rattle.diagram.specs.Day.{Day, fresh}
use Rattle.diagram.specs.Checks.{unknown_client, marked, open_elsewhere, busy_by_other, busy, stale, log_full, none_left, not_joinable, bad_name}
use Rattle.diagram.specs.Steps.{Step, Event, Yield, Fork, Join, Drop, after, run}
use Rattle.diagram.specs.Lawful.{Lawful, MayFollow, EachMayFollow}

-- 3 "box number not yet given out"
abbrev pub not_given : Day → ℕ → Bool
not_given y r = not (ltb r y.revisions)

abbrev pub none_of : List Bool → Bool
none_of [] = true
none_of (b ∷ bs) = not b && none_of bs

-- 17 is asked of a mark; a fork gives no name
abbrev pub misnamed : Day → Option Name → Bool
misnamed y none = false
misnamed y (some n) = bad_name y n

-- a step is accepted exactly if none of its codes applies: "Update: 1 to 9. Query: 1 to 8 .. Yield: 1, 2. Fork: 1, 3, 4,
-- 7, 10. Join: 1, 3, 4, 7, 11." (1 and 5 are not of this crate.) 02, U9: "16 marked box, checked right after 15; 17 bad name, for a mark ..;
-- 18 no such mark, for a drop; 17 and 18 are checked last"
unfoldable pub accepted : Day → Step → Bool
accepted y (Event c r u) =
    none_of (unknown_client c ∷ not_given y r ∷ y.joined r ∷ marked y r ∷ open_elsewhere y c r ∷ busy_by_other y c r ∷ stale y c r ∷ (u && log_full y) ∷ [])
accepted y (Yield c) = none_of (unknown_client c ∷ [])
accepted y (Fork r name) = none_of (not_given y r ∷ y.joined r ∷ busy y r ∷ none_left y ∷ misnamed y name ∷ [])
accepted y (Join a b) =
    none_of (not_given y a ∷ not_given y b ∷ y.joined a ∷ y.joined b ∷ marked y a ∷ marked y b ∷ busy y a ∷ busy y b ∷ not_joinable y a b ∷ [])
accepted y (Drop r) = none_of (not_given y r ∷ y.joined r ∷ not (marked y r) ∷ [])

-- each step is accepted when it comes
abbrev pub AcceptedFrom : Day → List Step → Type 0
AcceptedFrom y [] = Unit {0}
AcceptedFrom y (s ∷ ss) = (accepted y s ≡ true) × AcceptedFrom (after y s) ss

abbrev pub Accepted : List Step → Type 0
Accepted ss = AcceptedFrom fresh ss

-- after every run of accepted steps, a step is accepted exactly if it may follow
abbrev pub TakenExactly : Type 0
TakenExactly = (ss : List Step) → Accepted ss → (s : Step) → (accepted (run ss) s ≡ true) ↔ MayFollow ss s

-- and so of whole runs
abbrev pub RunsExactly : Type 0
RunsExactly = (ss : List Step) → Accepted ss ↔ EachMayFollow ss

-- a yield is always lawful
abbrev pub YieldsLawful : Type 0
YieldsLawful = (ss : List Step) → Accepted ss → (c : ℕ) → c < client_limit → Lawful (ss ++ (Yield c ∷ []))
