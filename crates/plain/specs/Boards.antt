-- 02, U10, "The announcer's board", on the plain day: the board that is right, and what a call does to a board.
use Rattle.std.specs.Prelude.{ℕ, Bool, ◌≡◌, List, ◌++◌}
use Rattle.updates.specs.Applied.{Update}
use Rattle.boards.specs.Board.{board_of, posted_all}
use Rattle.boards.specs.Posted.{Posted}
use Rattle.diagram.specs.Closed.{ClosedShown}
use Rattle.desk.specs.Calls.{Call}
use Rattle.entries.specs.Folded.{standing_of}
use Rattle.plain.specs.Record.{PlainDay}
use Rattle.plain.specs.Answers.{day_after}

-- "It shows box 0 by closed transactions only", "equal to working it out afresh": how each bib stands after the updates that box 0's line end sees, of closed
-- transactions only, in listed order
pub record Right (p : PlainDay) (board : List ℕ) : Type 0 where
  pub updates : List ℕ
  pub shown : ClosedShown p.day 0 updates
  pub is : board ≡ board_of (λ bib. standing_of p.entries bib updates)

-- every day has one right board, and no other is right
abbrev pub HasRight : Type 0
HasRight = (single : Bool) (cs : List (Call ℕ)) → (board : List ℕ) × Right (day_after single cs) board

abbrev pub OneRight : Type 0
OneRight = (p : PlainDay) (a b : List ℕ) → Right p a → Right p b → a ≡ b

-- what update n was
abbrev pub bib_of : PlainDay → ℕ → ℕ
bib_of p n = (p.entries n).bib

abbrev pub update_of : PlainDay → ℕ → Update
update_of p n = record { kind = (p.entries n).kind; v = (p.entries n).v }

-- a call leads from day p to day q, and leaves of `board`, right or not, `after`
pub record Brings (p q : PlainDay) (board after : List ℕ) : Type 0 where
  -- what box 0 showed of closed transactions, and what the call brought to it
  pub shown : List ℕ
  pub brought : List ℕ
  pub before : ClosedShown p.day 0 shown
  pub now : ClosedShown q.day 0 (shown ++ brought)
  -- "a board is altered only at bibs that they bring to box 0, where the updates brought are applied in listed order to the entry found .. and the entry is written anew"
  pub is : after ≡ posted_all (bib_of q) (update_of q) brought board
  pub by_bib : Posted (bib_of q) (update_of q) brought board
