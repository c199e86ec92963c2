-- No claim rests on this file: it serves the proofs.
-- The layout machine: a day without its diagram, as lists and flags. A table keeps this, and `Follows` says that it is
-- the day's. The servers' sets J of 002, section 4.3, are `joinable`.
use Rattle.std.specs.Prelude.{ℕ, suc, Bool, true, false, cond, not, ◌||◌, ◌≡◌, List, [], ◌∷◌, ◌++◌, eqb}
use Rattle.std.proofs.Math.Option.{Option, none, some}
use Rattle.lists.specs.Pool.{fork_pool, join_pool}
use Rattle.lists.specs.Lists.{◌∈◌, changed, keep}
use Rattle.lists.specs.Arranged.{insert_before, remove, member, flat_back, behind}
use Rattle.diagram.specs.Effects.{entry}
use Rattle.diagram.specs.Views.{own, view}
use Rattle.diagram.specs.Day.{Transaction, Day, IsOut}
use Rattle.diagram.specs.Checks.{stale, not_joinable}
use Rattle.diagram.specs.Steps.{Step, Event, Yield, Fork, Join, Drop}

pub record Machine : Type 0 where
  pub revisions : ℕ
  pub joined : ℕ → Bool
  -- joiner, joinee: 002's J
  pub joinable : ℕ → ℕ → Bool
  -- client, revision: a path leads from the client's last event to the terminal
  pub caught_up : ℕ → ℕ → Bool
  -- the revision of a client's open transaction
  pub open_on : ℕ → Option ℕ
  pub updates : ℕ
  -- the updates of a revision: its own, and those it inherited at its start
  pub own : ℕ → List ℕ
  pub inherited : ℕ → List ℕ
  -- the revisions that are out, right to left
  pub layout : List ℕ

abbrev pub fresh_machine : Machine
fresh_machine = record {
  revisions = 1;
  joined = λ r. false;
  joinable = λ a b. false;
  caught_up = λ c r. true;
  open_on = λ c. none;
  updates = 0;
  own = λ r. [];
  inherited = λ r. [];
  layout = 0 ∷ [];
}

-- an event: the client has caught up with its revision alone; an update goes to the end of the own list
abbrev pub enter_on : Machine → ℕ → ℕ → Bool → Machine
enter_on k c r u = record {
  revisions = k.revisions;
  joined = k.joined;
  joinable = k.joinable;
  caught_up = λ o x. cond (eqb o c) (eqb x r) (k.caught_up o x);
  open_on = changed k.open_on c (some r);
  updates = cond u (suc k.updates) k.updates;
  own = changed k.own r (k.own r ++ entry (cond u (some k.updates) none));
  inherited = k.inherited;
  layout = k.layout;
}

abbrev pub yield_on : Machine → ℕ → Machine
yield_on k c = record {
  revisions = k.revisions;
  joined = k.joined;
  joinable = k.joinable;
  caught_up = k.caught_up;
  open_on = changed k.open_on c none;
  updates = k.updates;
  own = k.own;
  inherited = k.inherited;
  layout = k.layout;
}

-- 002, FORK: the forker may join the new revision, which may join whom the forker may. It stands right of the forker,
-- inherits what the forker shows, and whoever has caught up with the forker has caught up with it.
abbrev pub fork_on : Machine → ℕ → Machine
fork_on k r = record {
  revisions = suc k.revisions;
  joined = changed k.joined k.revisions false;
  joinable = fork_pool k.joinable r k.revisions;
  caught_up = λ c x. cond (eqb x k.revisions) (k.caught_up c r) (k.caught_up c x);
  open_on = k.open_on;
  updates = k.updates;
  own = changed k.own k.revisions [];
  inherited = changed k.inherited k.revisions (k.inherited r ++ k.own r);
  layout = insert_before r k.revisions k.layout;
}

-- 002, JOIN: "take the union of the sets J of joinable servers". The joinee's own list goes to the end of the joiner's.
abbrev pub join_on : Machine → ℕ → ℕ → Machine
join_on k a b = record {
  revisions = k.revisions;
  joined = changed k.joined b true;
  joinable = join_pool k.joinable a b;
  caught_up = λ c x. cond (eqb x a) (k.caught_up c a || k.caught_up c b) (k.caught_up c x);
  open_on = k.open_on;
  updates = k.updates;
  own = changed k.own a (k.own a ++ k.own b);
  inherited = k.inherited;
  layout = remove b k.layout;
}

-- 02, U9: a mark leaves; it has no own list
abbrev pub drop_on : Machine → ℕ → Machine
drop_on k r = record {
  revisions = k.revisions;
  joined = changed k.joined r true;
  joinable = k.joinable;
  caught_up = k.caught_up;
  open_on = k.open_on;
  updates = k.updates;
  own = k.own;
  inherited = k.inherited;
  layout = remove r k.layout;
}

unfoldable pub machine_after : Machine → Step → Machine
machine_after k (Event c r u) = enter_on k c r u
machine_after k (Yield c) = yield_on k c
machine_after k (Fork r name) = fork_on k r
machine_after k (Join a b) = join_on k a b
machine_after k (Drop r) = drop_on k r

unfoldable pub machine_from : Machine → List Step → Machine
machine_from k [] = k
machine_from k (s ∷ ss) = machine_from (machine_after k s) ss

-- what a revision shows: of the own lists left of it what it inherited, in their order, then its own
abbrev pub shown : Machine → ℕ → List ℕ
shown k r = keep (λ u. member u (k.inherited r)) (flat_back k.own (behind r k.layout)) ++ k.own r

abbrev pub revision_of : (ℕ → Transaction) → Option ℕ → Option ℕ
revision_of w none = none
revision_of w (some t) = some (w t).revision

-- the machine has the day's answers
pub record Follows (y : Day) (k : Machine) : Type 0 where
  pub same_revisions : k.revisions ≡ y.revisions
  pub same_joined : (r : ℕ) → k.joined r ≡ y.joined r
  pub same_joinable : (a b : ℕ) → IsOut y a → IsOut y b → k.joinable a b ≡ not (not_joinable y a b)
  pub same_caught_up : (c r : ℕ) → IsOut y r → k.caught_up c r ≡ not (stale y c r)
  pub same_open_on : (c : ℕ) → k.open_on c ≡ revision_of y.transaction (y.open_by c)
  pub same_updates : k.updates ≡ y.updates
  pub same_own : (r : ℕ) → IsOut y r → k.own r ≡ own y.diagram (y.terminal r)
  pub same_view : (r : ℕ) → IsOut y r → k.inherited r ++ k.own r ≡ view y.diagram (y.terminal r)
  pub same_shown : (r : ℕ) → IsOut y r → shown k r ≡ view y.diagram (y.terminal r)
  pub out : (r : ℕ) → r ∈ k.layout → IsOut y r
  pub laid : (r : ℕ) → IsOut y r → r ∈ k.layout
