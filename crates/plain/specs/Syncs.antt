-- 02, U8: what a taken sync is, and what is claimed of single-main days.
use Rattle.std.specs.Prelude.{ℕ, ◌<◌, ◌≤◌, Bool, true, ◌≡◌, List, ◌∷◌, ◌++◌}
use Rattle.diagram.specs.Day.{meant}
use Rattle.diagram.specs.Steps.{Step, Event, next_vertex}
use Rattle.diagram.specs.Single.{VisibleTo}
use Rattle.desk.specs.Calls.{Call, Fork, Join, Sync, Looks, Preview}
use Rattle.plain.specs.Record.{PlainDay}
use Rattle.plain.specs.Answers.{Outcome, called, day_after}
use Rattle.plain.specs.Taken.{Taken, end_of, steps_after}

-- a sync that is taken on day p "joins it into box 0, then forks box 0", both taken; it is that fork, and so "answers the new number". (So the day after
-- further calls is the one of the list with the join and the fork in its place: `unsynced`, proofs/Follows. What its join gains, what number it takes and what
-- that number means is told of these two: `sync_tells` there.)
pub record Synced (p : PlainDay) (m room : ℕ) (o : Outcome) : Type 0 where
  pub joins : (called p (Join 0 m room)).answer.code ≡ 0
  pub is : o ≡ called (called p (Join 0 m room)).next (Fork 0)

pub record OnSingleMain (cs : List (Call ℕ)) : Type 0 where
  -- "On these days show that 11 arises only with joinee 0": of a join, a sync and a preview
  pub join_eleven : (before rest : List (Call ℕ)) (n m room : ℕ) → cs ≡ before ++ (Join n m room ∷ rest) → (called (day_after true before) (Join n m room)).answer.code ≡ 11 → m ≡ 0
  pub sync_eleven : (before rest : List (Call ℕ)) (m room : ℕ) → cs ≡ before ++ (Sync m room ∷ rest) → (called (day_after true before) (Sync m room)).answer.code ≡ 11 → m ≡ 0
  pub preview_eleven : (before rest : List (Call ℕ)) (n m bib : ℕ) → cs ≡ before ++ (Looks (Preview n m bib) ∷ rest)
      → (called (day_after true before) (Looks (Preview n m bib))).answer.code ≡ 11 → m ≡ 0
  -- "anything yielded on a box before its taken sync is visible to every box that starts with that sync or after it": the event of a step before the
  -- sync, on the box that it names. A sync is taken only if that box is not busy, so that each such event was yielded.
  pub seen : (before rest : List (Call ℕ)) (m room : ℕ) → Taken true cs before (Sync m room) rest
      → (early middle : List Step) (c : ℕ) (u : Bool) → steps_after true before ≡ early ++ (Event c (meant (end_of true before) m) u ∷ middle)
      → (r : ℕ) → (end_of true before).revisions ≤ r → r < (end_of true cs).revisions → VisibleTo (end_of true cs) r (next_vertex early)
