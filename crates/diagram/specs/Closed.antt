-- 02, U10: "It shows box 0 by closed transactions only": what a terminal shows of closed transactions.
use Rattle.std.specs.Prelude.{◌<◌, ℕ, ◌≡◌, List}
use Rattle.std.proofs.Math.Option.{some}
use Rattle.lists.specs.Lists.{◌∈◌, Only}
use Rattle.diagram.specs.Arbitration.{events_of}
use Rattle.diagram.specs.Day.{Day}
use Rattle.diagram.specs.Effects.{number}
use Rattle.diagram.specs.Views.{view}

-- update n was entered in a transaction that is closed
pub record OfClosed (y : Day) (n : ℕ) : Type 0 where
  pub transaction : ℕ
  pub known : transaction < y.transactions
  pub at : ℕ
  pub closed : (y.transaction transaction).closed ≡ some at
  pub event : ℕ
  pub entered : event ∈ events_of y transaction
  pub update : number y.diagram event ≡ some n

-- l has the updates that r's terminal sees, of closed transactions only, as they are listed
abbrev pub ClosedShown : Day → ℕ → List ℕ → Type 0
ClosedShown y r l = Only (OfClosed y) (view y.diagram (y.terminal r)) l
