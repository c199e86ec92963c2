-- The steps of the day and what each does. 01, "The plain day and its line-up": "When taken: ..".
use Rattle.std.specs.Prelude.{ℕ, suc, Bool, true, false, cond, List, [], ◌∷◌, ◌++◌, length}
use Rattle.std.proofs.Math.Option.{Option, none, some}
use Rattle.lists.specs.Lists.{changed}
use Rattle.lists.specs.Names.{Name}
use Rattle.diagram.specs.Diagram.{Vertex, start, event, fork, join, Diagram}
use Rattle.diagram.specs.Numbering.{Numbering, started, handed_in}
use Rattle.diagram.specs.Day.{Transaction, Day, fresh}

-- a step names clients and revisions; an event is an update or a query; 02, U9: a mark is a fork that gives a name
pub data Step : Type 0 where
  Event : (client revision : ℕ) (is_update : Bool) → Step
  Yield : (client : ℕ) → Step
  Fork : (revision : ℕ) (name : Option Name) → Step
  Join : (joiner joinee : ℕ) → Step
  Drop : (revision : ℕ) → Step

-- the day with other vertices, terminals (01: line ends), hand-ins, numbers and names
abbrev pub with_boxes : Day → Diagram → (ℕ → ℕ) → (ℕ → Bool) → Numbering → (ℕ → Option Name) → Day
with_boxes y diagram terminal joined numbering mark = record {
  diagram = diagram;
  revisions = y.revisions;
  start_of = y.start_of;
  fork_of = y.fork_of;
  terminal = terminal;
  joined = joined;
  numbering = numbering;
  mark = mark;
  updates = y.updates;
  last_event = y.last_event;
  open_by = y.open_by;
  transactions = y.transactions;
  transaction = y.transaction;
}

-- the day with other updates, events and transactions of its clients
abbrev pub with_clients : Day → ℕ → (ℕ → Option ℕ) → (ℕ → Option ℕ) → ℕ → (ℕ → Transaction) → Day
with_clients y updates last_event open_by transactions transaction = record {
  diagram = y.diagram;
  revisions = y.revisions;
  start_of = y.start_of;
  fork_of = y.fork_of;
  terminal = y.terminal;
  joined = y.joined;
  numbering = y.numbering;
  mark = y.mark;
  updates = updates;
  last_event = last_event;
  open_by = open_by;
  transactions = transactions;
  transaction = transaction;
}

-- one more vertex, at a revision's terminal
abbrev pub grown : Day → ℕ → Vertex → Day
grown y r vertex = with_boxes y (vertex ∷ y.diagram) (changed y.terminal r (length y.diagram)) y.joined y.numbering y.mark

-- a revision that is handed in, or dropped: its number is freed
abbrev pub hand_in : Day → ℕ → (ℕ → Option Name) → Day
hand_in y r mark = with_boxes y y.diagram y.terminal (changed y.joined r true) (handed_in y.numbering r) mark

-- "Update, query: a vertex at the box's line end. It goes into the tablet's open transaction or opens one, and is the
-- tablet's last event."
abbrev pub enters_into : Day → Option ℕ → ℕ
enters_into y none = y.transactions
enters_into y (some t) = t

abbrev pub events_before : Day → Option ℕ → List ℕ
events_before y none = []
events_before y (some t) = (y.transaction t).events

abbrev pub counted_with : Day → Option ℕ → ℕ
counted_with y none = suc y.transactions
counted_with y (some t) = y.transactions

abbrev pub new_update : Day → Bool → Option ℕ
new_update y u = cond u (some y.updates) none

abbrev pub enter : Day → ℕ → ℕ → Bool → Day
enter y c r u =
    let t = enters_into y (y.open_by c) in
    let now = length y.diagram in
    let entered : Transaction = record { client = c; revision = r; events = events_before y (y.open_by c) ++ (now ∷ []); closed = none } in
    with_clients (grown y r (event (y.terminal r) c (new_update y u))) (cond u (suc y.updates) y.updates) (changed y.last_event c (some now))
    (changed y.open_by c (some t)) (counted_with y (y.open_by c)) (changed y.transaction t entered)

-- "Yield: the open transaction, if any, is closed."
abbrev pub closed_now : Day → Transaction → Transaction
closed_now y t = record { client = t.client; revision = t.revision; events = t.events; closed = some (length y.diagram) }

abbrev pub yield : Day → ℕ → Option ℕ → Day
yield y c none = y
yield y c (some t) =
    with_clients y y.updates y.last_event (changed y.open_by c none) y.transactions (changed y.transaction t (closed_now y (y.transaction t)))

-- "Fork: the fork vertex and a new box." 02, U9: "A mark forks an idle box, marked or not, and gives the new box a name"
abbrev pub fork_at : Day → ℕ → Option Name → Day
fork_at y r name = record {
  diagram = start (length y.diagram) ∷ fork (y.terminal r) ∷ y.diagram;
  revisions = suc y.revisions;
  start_of = changed y.start_of y.revisions (suc (length y.diagram));
  fork_of = changed y.fork_of y.revisions (length y.diagram);
  terminal = changed (changed y.terminal r (length y.diagram)) y.revisions (suc (length y.diagram));
  joined = changed y.joined y.revisions false;
  numbering = started y.numbering y.revisions;
  mark = changed y.mark y.revisions name;
  updates = y.updates;
  last_event = y.last_event;
  open_by = y.open_by;
  transactions = y.transactions;
  transaction = y.transaction;
}

-- "Join: the join vertex, and the joinee is handed in."
abbrev pub join_into : Day → ℕ → ℕ → Day
join_into y a b = hand_in (grown y a (join (y.terminal a) (y.terminal b))) b y.mark

-- 02, U9: "Dropping a mark, by its name, frees its number as a hand-in does, so that it gives 4 until used again." "Nothing is rewound": no vertex
-- is added or taken away
abbrev pub drop_at : Day → ℕ → Day
drop_at y r = hand_in y r (changed y.mark r none)

unfoldable pub after : Day → Step → Day
after y (Event c r u) = enter y c r u
after y (Yield c) = yield y c (y.open_by c)
after y (Fork r name) = fork_at y r name
after y (Join a b) = join_into y a b
after y (Drop r) = drop_at y r

-- a run from a day, and from the fresh one
unfoldable pub run_from : Day → List Step → Day
run_from y [] = y
run_from y (s ∷ ss) = run_from (after y s) ss

unfoldable pub run : List Step → Day
run ss = run_from fresh ss

-- the next vertex after some steps: that of an event which is entered then
abbrev pub next_vertex : List Step → ℕ
next_vertex ss = length (run ss).diagram
