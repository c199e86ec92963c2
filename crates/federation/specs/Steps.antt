-- What a function that picks the course asks of the step that it runs: the step answers and leaves what the call does of its table.
use Rattle.std.specs.Prelude.{ℕ, List, [], ◌≡◌, ◌≤◌}
use Rattle.std.specs.Borrow.{Bor, MutBor}
use Rattle.desk.specs.Calls.{Call, Look, Looks}
use Rattle.table.specs.Lent.{board_lent}
use Rattle.table.specs.Served.{looked, sheet_of}
use Rattle.table.specs.Shared.{above}
use Rattle.card.specs.Log.{card}
use Rattle.card.specs.Courses.{sharing}
use Rattle.beside.specs.Replies.{replied}
use Rattle.beside.specs.declared.reply.Reply.{Reply}
use Rattle.federation.specs.Out.{served_as}

-- a call is lent this board, and no sheet
abbrev pub Lends : Call (List ℕ) → List ℕ → Type 0
Lends q board = (board_lent q ≡ board) × (sheet_of q ≡ [])

-- the step serves the call, on a table that may have so many updates, with the board
abbrev pub Serves : (MutBor (List ℕ) → ℕ → MutBor (List ℕ) → Reply → MutBor (List ℕ) → MutBor (List ℕ) → Type 0) → Call (List ℕ) → List ℕ → Type 0
Serves post q lent = (t : MutBor (List ℕ)) (most : ℕ) (board : MutBor (List ℕ)) (r : Reply) (t' board' : MutBor (List ℕ))
    → most ≤ card → board.now ≡ lent → post t most board r t' board' → served_as r [] t'.now board'.now ≡ sharing (above most) t.now q

-- a look is lent this sheet
abbrev pub LendsSheet : Look (List ℕ) → List ℕ → Type 0
LendsSheet l sheet = sheet_of (Looks l) ≡ sheet

-- the step answers the look, with the sheet
abbrev pub Shows : (Bor (List ℕ) → MutBor (List ℕ) → Reply → MutBor (List ℕ) → Type 0) → Look (List ℕ) → List ℕ → Type 0
Shows post l lent = (t : Bor (List ℕ)) (sheet : MutBor (List ℕ)) (r : Reply) (sheet' : MutBor (List ℕ)) → sheet.now ≡ lent → post t sheet r sheet' → replied r sheet'.now ≡ looked t.now l
