-- Demand 2 for each call: 00, "A step is taken exactly if that paper's construction and transaction rules, for joins its server pool's rule, and our
-- stated limits allow it". No test and no code is named here. The rules are `MayFollow` (crate diagram, specs/Lawful): the run of the steps taken so
-- far, with this one, keeps 002's rules within 01's sizes. The rest are limits of 01 and 02.
use Rattle.std.specs.Prelude.{ℕ, ◌+◌, ◌*◌, ◌<◌, ◌≤◌, Bool, true, false, ◌≡◌, List, [], ◌∷◌, ◌++◌, length}
use Rattle.std.proofs.Math.Option.{none, some}
use Rattle.bundles.specs.declared.entry.Entry.{Entry}
use Rattle.orderfile.specs.File.{count, offset}
use Rattle.boards.specs.Board.{board_bytes}
use Rattle.diagram.specs.Day.{Day, IsOut, IsIdle, is_given, meant, shown_at}
use Rattle.diagram.specs.Steps as Steps
use Rattle.diagram.specs.Steps.{Step, Event}
use Rattle.diagram.specs.Lawful.{MayFollow, EachMayFollow}
use Rattle.desk.specs.Calls.{Call, Update, Query, Yield, Fork, Join, Sync, Mark, Drop, Bundle, Looks, Show, Fill, Preview, Verify, Bill, Batch, Records, Entries, entries_of}
use Rattle.plain.specs.Taken.{end_of, steps_after, bundle_steps}

-- 3: number n was given out, and something holds of the revision that it means
pub record Meaning (y : Day) (n : ℕ) (Holds : ℕ → Type 0) : Type 0 where
  pub given : is_given y n ≡ true
  pub holds : Holds (meant y n)

-- 5: "bib above 999, or update kind not 1 to 4"
abbrev pub IsKind : ℕ → Type 0
IsKind k = (1 ≤ k) × (k ≤ 4)

abbrev pub AreEntries : List Entry → Type 0
AreEntries [] = Unit {0}
AreEntries (e ∷ es) = (e.bib < 1000) × IsKind e.kind × AreEntries es

-- 14: "if the count is 0 or above 64 or the bytes aren't a multiple of 12"
abbrev pub IsBatch : Batch → Type 0
IsBatch (Records bytes) = (n : ℕ) × (length bytes ≡ 12 * n) × (1 ≤ n) × (n ≤ 64)
IsBatch (Entries es) = (1 ≤ length es) × (length es ≤ 64)

-- 21: "if the length or the offset is under 8, or offset + 2 times the count isn't the length"
abbrev pub IsList : List ℕ → Type 0
IsList file = (8 ≤ length file) × (8 ≤ offset file) × (offset file + 2 * count file ≡ length file)

-- a revision that can be listed: it is out and idle, and the sheet has room. 002 has no lists: 4, 7 and 12 of one are limits of 01
pub record CanShow (y : Day) (r room : ℕ) : Type 0 where
  pub out : IsOut y r
  pub idle : IsIdle y r
  pub fits : 12 * length (shown_at y r) ≤ room

-- 15, 02, U8: on a single-main day, box 0
abbrev pub OnLine : Bool → ℕ → Type 0
OnLine single n = single ≡ true → n ≡ 0

-- a step of the revision that number n means may follow
abbrev pub StepAllowed : Bool → List (Call ℕ) → ℕ → (ℕ → Step) → Type 0
StepAllowed single before n step = Meaning (end_of single before) n (λ r. MayFollow (steps_after single before) (step r))

abbrev pub JoinAllowed : Bool → List (Call ℕ) → ℕ → ℕ → Type 0
JoinAllowed single before n m = Meaning (end_of single before) n (λ a. Meaning (end_of single before) m (λ b. MayFollow (steps_after single before) (Steps.Join a b))) × OnLine single n

-- what allows a call after the calls `before`; of a board 19: "length other than 5,000"
abbrev pub Allowed : Bool → List (Call ℕ) → Call ℕ → Type 0
Allowed single before (Update c n k bib v) = StepAllowed single before n (λ r. Event c r true) × (bib < 1000) × IsKind k
Allowed single before (Query c n bib) = StepAllowed single before n (λ r. Event c r false) × (bib < 1000)
Allowed single before (Yield c room) = MayFollow (steps_after single before) (Steps.Yield c) × (room ≡ board_bytes)
Allowed single before (Fork n) = StepAllowed single before n (λ r. Steps.Fork r none) × OnLine single n
Allowed single before (Join n m room) = JoinAllowed single before n m × (room ≡ board_bytes)
-- 02, U8: "has join's refusals for joiner 0": its fork may always follow
Allowed single before (Sync m room) = JoinAllowed single before 0 m × (room ≡ board_bytes)
-- 02, U9: a fork with this name may follow; "Single-main days have no marks"
Allowed single before (Mark n name) = StepAllowed single before n (λ r. Steps.Fork r (some name)) × (single ≡ false)
-- 18 "no such mark": a mark bears this name
Allowed single before (Drop name) = (r : ℕ) × ((end_of single before).mark r ≡ some name) × MayFollow (steps_after single before) (Steps.Drop r)
-- 02, U4: its updates and its yield may follow, one after another
Allowed single before (Bundle c n batch room) =
    IsBatch batch × (room ≡ board_bytes) × AreEntries (entries_of batch)
    × Meaning (end_of single before) n (λ r. EachMayFollow (steps_after single before ++ bundle_steps c r (entries_of batch)))
Allowed single before (Looks (Show n room)) = Meaning (end_of single before) n (λ r. CanShow (end_of single before) r room)
-- 02, U1: of a box that is out, busy or not
Allowed single before (Looks (Fill n)) = Meaning (end_of single before) n (IsOut (end_of single before))
-- 02, U6: where the join is allowed, and the bib is one
Allowed single before (Looks (Preview n m bib)) = JoinAllowed single before n m × (bib < 1000)
-- 02, U13: any file that is no bad list
Allowed single before (Looks (Verify file)) = IsList file
-- 02, U14: always
Allowed single before (Looks (Bill member)) = Unit {0}
