-- No claim rests on this file: it serves the proof of the agreement (crate consistency).
-- The same agreement over box numbers, as a table is asked: `Means` says which revision a number means on the day.
use Rattle.std.specs.Prelude.{ℕ, ◌<◌, Bool, true, false, not, ◌≡◌, List, length}
use Rattle.diagram.specs.Views
use Rattle.lists.specs.Names.{Name}
use Rattle.diagram.specs.Day.{Day, Means, is_given, is_named, mark_named}
use Rattle.diagram.specs.Checks
use Rattle.diagram.specs.Steps.{Step, run}
use Rattle.diagram.specs.Accepted.{Accepted}
use Rattle.cells.specs.Sizes.{clients}
use Rattle.cells.specs.Cells.{Cells}
use Rattle.cells.specs.Order.{order}
use Rattle.cells.specs.Checks as Asked
use Rattle.cells.specs.Decode.{cells}
use Rattle.following.specs.Reached.{bytes_after}

-- number n, which means a revision r that is out
pub record NumberOut (y : Day) (k : Cells) (n r : ℕ) : Type 0 where
  pub same_order : order k n ≡ Views.view y.diagram (y.terminal r)
  pub same_gain : k.count n ≡ length (Views.own y.diagram (y.terminal r))
  pub same_stale : (c : ℕ) → c < clients → Asked.stale k c n ≡ Checks.stale y c r

-- number n, which means revision r
pub record Number (y : Day) (k : Cells) (n r : ℕ) : Type 0 where
  pub same_joined : Asked.joined k n ≡ y.joined r
  pub same_marked : Asked.is_mark k n ≡ Checks.marked y r
  pub same_elsewhere : (c : ℕ) → c < clients → Asked.open_elsewhere k c n ≡ Checks.open_elsewhere y c r
  pub same_busy_by_other : (c : ℕ) → Asked.busy_by_other k c n ≡ Checks.busy_by_other y c r
  pub same_busy : Asked.busy k n ≡ Checks.busy y r
  pub out : y.joined r ≡ false → NumberOut y k n r

pub record NumbersFollow (y : Day) (k : Cells) : Type 0 where
  pub same_given : (n : ℕ) → Asked.given_out k n ≡ is_given y n
  pub number : (n r : ℕ) → Means y n r → Number y k n r
  pub same_joinable : (n m a b : ℕ) → Means y n a → Means y m b → y.joined a ≡ false → y.joined b ≡ false
      → Asked.joinable k n m ≡ not (Checks.not_joinable y a b)
  -- a name, and the number of the mark that bears it
  pub same_bad_name : (n : Name) → Asked.bad_name k n ≡ Checks.bad_name y n
  pub same_no_mark : (n : Name) → Asked.no_such_mark k n ≡ not (is_named y n)
  pub same_bearer : (n : Name) → is_named y n ≡ true → Means y (Asked.bearer k n) (mark_named y n)

abbrev pub NumbersFollowDays : Type 0
NumbersFollowDays = (single : Bool) (ss : List Step) → Accepted ss → NumbersFollow (run ss) (cells (bytes_after single ss))
