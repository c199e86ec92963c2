-- 02, U13, on the plain day: what a taken verify says, and that the day's own line-up gets a yes.
use Rattle.std.specs.Prelude.{ℕ, Bool, ◌≡◌, ◌↔◌, List, []}
use Rattle.lists.specs.Lists.{flat}
use Rattle.orderfile.specs.File.{numbers_in, file_of}
use Rattle.orderfile.specs.Fits.{Fits}
use Rattle.diagram.specs.Effects.{numbers}
use Rattle.diagram.specs.Day.{Day, IsOut, shown_at}
use Rattle.diagram.specs.Arbitration.{events_of}
use Rattle.desk.specs.Calls.{Call, Answer, Looks, Verify, plainly}
use Rattle.plain.specs.Record.{Line}
use Rattle.plain.specs.Answers.{called, day_after}
use Rattle.plain.specs.Taken.{end_of}

-- "Say yes, value 1, and else value 0, exactly if it has every update taken today exactly once, no other number, and every box out has its listed
-- updates standing in it in the listed order, open transactions included."
pub record Verified (y : Day) (file : List ℕ) (answer : Answer (List Line)) : Type 0 where
  pub agrees : (answer.value ≡ 1) ↔ Fits y.updates (IsOut y) (shown_at y) (numbers_in file)
  pub else_none : (answer.value ≡ 1 → ⊥) → answer.value ≡ 0

-- the updates of a line-up, in its order, "as entered within a transaction"
abbrev pub updates_in : Day → List ℕ → List ℕ
updates_in y order = numbers y.diagram (flat (events_of y) order)

-- "Our own line-up of demand 3, in which every box's visible updates stand in listed order, must get a yes when written so."
abbrev pub GetsYes : Bool → List (Call ℕ) → List ℕ → Type 0
GetsYes single cs order = (called (day_after single cs) (Looks (Verify (file_of (updates_in (end_of single cs) order))))).answer ≡ plainly 0 1 []
