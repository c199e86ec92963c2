-- The calls that are taken, as steps of the day of revisions.
use Rattle.std.specs.Prelude.{ℕ, Bool, cond, false, true, ◌≡◌, List, [], ◌∷◌, ◌++◌, eqb}
use Rattle.std.proofs.Math.Option.{none, some}
use Rattle.bundles.specs.declared.entry.Entry.{Entry}
use Rattle.desk.specs.Calls.{Call, Update, Query, Yield, Fork, Join, Sync, Mark, Drop, Bundle, Looks, entries_of}
use Rattle.diagram.specs.Day.{Day, mark_named, meant}
use Rattle.diagram.specs.Steps as Steps
use Rattle.diagram.specs.Steps.{Step, Event}
use Rattle.plain.specs.Record.{PlainDay, fresh_day}
use Rattle.plain.specs.Answers.{called, day_after}

-- 02, U4: a bundle is its updates and a yield
abbrev pub bundle_steps : ℕ → ℕ → List Entry → List Step
bundle_steps c r [] = Steps.Yield c ∷ []
bundle_steps c r (e ∷ es) = Event c r true ∷ bundle_steps c r es

-- the steps that a call is
abbrev pub step_of : PlainDay → Call ℕ → List Step
step_of p (Update c n k bib v) = Event c (meant p.day n) true ∷ []
step_of p (Query c n bib) = Event c (meant p.day n) false ∷ []
step_of p (Yield c room) = Steps.Yield c ∷ []
step_of p (Fork n) = Steps.Fork (meant p.day n) none ∷ []
step_of p (Join n m room) = Steps.Join (meant p.day n) (meant p.day m) ∷ []
-- 02, U8: a sync is a join and a fork
step_of p (Sync m room) = Steps.Join (meant p.day 0) (meant p.day m) ∷ Steps.Fork (meant p.day 0) none ∷ []
-- 02, U9: a mark is a fork with a name
step_of p (Mark n name) = Steps.Fork (meant p.day n) (some name) ∷ []
step_of p (Drop name) = Steps.Drop (mark_named p.day name) ∷ []
step_of p (Bundle c n batch room) = bundle_steps c (meant p.day n) (entries_of batch)
step_of p (Looks l) = []

-- a call that was refused is none
abbrev pub steps_of : PlainDay → Call ℕ → List Step
steps_of p c = cond (eqb (called p c).answer.code 0) (step_of p c) []

unfoldable pub steps_from : PlainDay → List (Call ℕ) → List Step
steps_from p [] = []
steps_from p (c ∷ cs) = steps_of p c ++ steps_from (called p c).next cs

abbrev pub steps_after : Bool → List (Call ℕ) → List Step
steps_after single cs = steps_from (fresh_day single) cs

-- the day of revisions after a list of calls
abbrev pub end_of : Bool → List (Call ℕ) → Day
end_of single cs = (day_after single cs).day

-- call c, taken between `before` and `rest`
pub record Taken (single : Bool) (cs before : List (Call ℕ)) (c : Call ℕ) (rest : List (Call ℕ)) : Type 0 where
  pub place : cs ≡ before ++ (c ∷ rest)
  pub code : (called (day_after single before) c).answer.code ≡ 0
