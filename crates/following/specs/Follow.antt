-- No claim rests on this file: it serves the proof of the agreement (crate consistency).
-- The cells agree with the plain day: each check answers as the day's, each order is the day's, each value is the day's.
-- The day's diagram decides; the cells have no diagram. Codes and values are those of 01, "Codes of the desk".
use Rattle.std.specs.Prelude.{ℕ, suc, ◌<◌, ◌≤◌, Bool, true, false, cond, not, ◌≡◌, List, [], ◌∷◌, ltb, length}
use Rattle.std.proofs.Math.Option.{none, some}
use Rattle.diagram.specs.Views
use Rattle.lists.specs.Names.{Name}
use Rattle.diagram.specs.Day.{Day, IsOut, Means, is_given, is_named, mark_named, next_number, number_of}
use Rattle.diagram.specs.Checks
use Rattle.diagram.specs.Steps.{Step, Event, Yield, Fork, Join, Drop, run}
use Rattle.diagram.specs.Accepted.{Accepted}
use Rattle.cells.specs.Sizes.{clients, updates, lower_bytes}
use Rattle.cells.specs.Cells
use Rattle.cells.specs.Cells.{Cells, own}
use Rattle.cells.specs.Order.{order}
use Rattle.cells.specs.Checks as Asked
use Rattle.cells.specs.Decode.{cells}
use Rattle.cells.specs.Range.{in_range}
use Rattle.following.specs.Reached.{cells_after, bytes_after}

-- of the revisions out, by their numbers; of the numbers, by what they mean; of the clients
pub record CellsFollow (y : Day) (k : Cells) : Type 0 where
  -- "in the order in which the effects apply on the way from the root": 002's view of the terminal, all of it
  pub same_order : (r : ℕ) → IsOut y r → order k (number_of y r) ≡ Views.view y.diagram (y.terminal r)
  pub whole_order : (r : ℕ) → IsOut y r → length (Views.view y.diagram (y.terminal r)) ≤ updates
  pub same_own : (r : ℕ) → IsOut y r → own k (number_of y r) ≡ Views.own y.diagram (y.terminal r)
  -- 2 "tablet above 15"
  pub same_client : (c : ℕ) → Asked.is_client c ≡ not (Checks.unknown_client c)
  -- 3 "box number not yet given out"
  pub same_given : (n : ℕ) → Asked.given_out k n ≡ is_given y n
  -- 4 "box already a joinee"
  pub same_joined : (n r : ℕ) → Means y n r → Asked.joined k n ≡ y.joined r
  -- 16 "marked box"
  pub same_marked : (n r : ℕ) → Means y n r → Asked.is_mark k n ≡ Checks.marked y r
  -- 6 "the tablet's open transaction is on another box"
  pub same_elsewhere : (c n r : ℕ) → c < clients → Means y n r → Asked.open_elsewhere k c n ≡ Checks.open_elsewhere y c r
  -- 7 "update, query: another tablet has the box busy. Fork, list, join: the box, or either box, is busy"
  pub same_busy_by_other : (c n r : ℕ) → Means y n r → Asked.busy_by_other k c n ≡ Checks.busy_by_other y c r
  pub same_busy : (n r : ℕ) → Means y n r → Asked.busy k n ≡ Checks.busy y r
  -- 8 "the path from the tablet's last event is missing"
  pub same_stale : (c r : ℕ) → c < clients → IsOut y r → Asked.stale k c (number_of y r) ≡ Checks.stale y c r
  -- 9 "4,096 updates taken"; 10, 02, U7: "exactly if 64 boxes are out"
  pub same_full : Asked.log_full k ≡ Checks.log_full y
  pub same_left : Asked.none_left k ≡ Checks.none_left y
  -- 11 "joinee is box 0, is the joiner, its fork isn't seen, or its start is": a seen flag alone is this rule
  pub same_seen : (a b : ℕ) → IsOut y a → IsOut y b → k.seen (number_of y a) (number_of y b) ≡ not (Checks.not_joinable y a b)
  pub same_joinable : (a b : ℕ) → IsOut y a → IsOut y b → Asked.joinable k (number_of y a) (number_of y b) ≡ not (Checks.not_joinable y a b)
  -- 17 "not four letters, or in use"; 18 "no such mark"; and the number that is found means the mark
  pub same_bad_name : (n : Name) → Asked.bad_name k n ≡ Checks.bad_name y n
  pub same_no_mark : (n : Name) → Asked.no_such_mark k n ≡ not (is_named y n)
  pub same_bearer : (n : Name) → is_named y n ≡ true → Means y (Asked.bearer k n) (mark_named y n)
  -- "Values when taken: update, the count of updates taken before it; .. fork, the new number"
  pub same_updates : k.updates ≡ y.updates
  pub same_number : Checks.none_left y ≡ false → Cells.next_number k ≡ next_number y
  -- "join, the count of updates the joiner gained"
  pub same_gain : (b : ℕ) → IsOut y b → k.count (number_of y b) ≡ length (Views.own y.diagram (y.terminal b))

-- the bytes are a table in range, and their cells agree with the day
pub record BytesFollow (y : Day) (d : List ℕ) : Type 0 where
  pub size : length d ≡ lower_bytes
  pub ranged : in_range d ≡ true
  pub follow : CellsFollow y (cells d)

-- for every choice given to fresh and every run of accepted steps of the day, the cells reached from fresh agree with it
abbrev pub CellsFollowDays : Type 0
CellsFollowDays = (single : Bool) (ss : List Step) → Accepted ss → CellsFollow (run ss) (cells_after single ss)

-- and so do the bytes
abbrev pub BytesFollowDays : Type 0
BytesFollowDays = (single : Bool) (ss : List Step) → Accepted ss → BytesFollow (run ss) (bytes_after single ss)

-- 02, U8: the choice given to fresh is kept, so that 15 is `Asked.off_line` of the bytes
abbrev pub ChoiceIsKept : Type 0
ChoiceIsKept = (single : Bool) (ss : List Step) → Accepted ss → (cells (bytes_after single ss)).single ≡ single

-- 02, U14: a fork that gives no name starts a box, and the count stops
abbrev pub one_more : ℕ → Step → ℕ
one_more n (Event c r u) = n
one_more n (Yield c) = n
one_more n (Fork r none) = cond (ltb n 65535) (suc n) n
one_more n (Fork r (some name)) = n
one_more n (Join a b) = n
one_more n (Drop r) = n

abbrev pub started_after : ℕ → List Step → ℕ
started_after n [] = n
started_after n (s ∷ ss) = started_after (one_more n s) ss

-- the boxes started are in their cell
abbrev pub StartedIsKept : Type 0
StartedIsKept = (single : Bool) (ss : List Step) → Accepted ss → (cells (bytes_after single ss)).started ≡ started_after 1 ss
