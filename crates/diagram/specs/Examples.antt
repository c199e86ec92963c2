-- No claim rests on this file: computed examples.
-- 01, "Edges of a race day", as far as revisions go: steps, and which of them are accepted or what they list. A refused
-- step changes nothing. Last the diagram that shows why the join rule has a second half.
use Rattle.std.specs.Prelude.{ℕ, Bool, true, false, cond, List, [], ◌∷◌, ◌++◌}
use Rattle.std.proofs.Math.Option.{none, some}
use Rattle.lists.specs.Names.{Name}
use Rattle.diagram.specs.Diagram.{Diagram, root, start, event, fork, join}
use Rattle.diagram.specs.Day.{Day, fresh}
use Rattle.diagram.specs.Steps.{Step, Event, Yield, Fork, Join, Drop, after}
use Rattle.diagram.specs.Accepted.{accepted}

abbrev pub tried : Day → Step → Day
tried y s = cond (accepted y s) (after y s) y

abbrev pub tried_all : Day → List Step → Day
tried_all y [] = y
tried_all y (s ∷ ss) = tried_all (tried y s) ss

abbrev pub answers : Day → List Step → List Bool
answers y [] = []
answers y (s ∷ ss) = accepted y s ∷ answers (tried y s) ss

-- steps with what they answer
pub record Example : Type 0 where
  pub steps : List Step
  pub accepts : List Bool

abbrev example : List Step → List Bool → Example
example steps accepts = record { steps = steps; accepts = accepts }

abbrev pub e1 : List Step
e1 =
    Event 0 0 true ∷ Yield 0 ∷ Fork 0 none ∷ Event 1 1 true ∷ Fork 1 none ∷ Yield 1 ∷ Event 0 0 true ∷ Yield 0 ∷ Event 0 1 false
    ∷ Join 0 1 ∷ Event 1 0 false ∷ Event 0 1 true ∷ []

-- 02, U9: names, and what is none: ABC, ABCa, @BCD, ABCDE
abbrev pub abcd : Name
abcd = 65 ∷ 66 ∷ 67 ∷ 68 ∷ []

abbrev pub wxyz : Name
wxyz = 87 ∷ 88 ∷ 89 ∷ 90 ∷ []

abbrev pub no_names : List Name
no_names = (65 ∷ 66 ∷ 67 ∷ []) ∷ (65 ∷ 66 ∷ 67 ∷ 97 ∷ []) ∷ (64 ∷ 66 ∷ 67 ∷ 68 ∷ []) ∷ (65 ∷ 66 ∷ 67 ∷ 68 ∷ 69 ∷ []) ∷ []

-- a mark of box 0 for each
abbrev marks : List Name → List Step
marks [] = []
marks (n ∷ ns) = Fork 0 (some n) ∷ marks ns

abbrev pub examples : List Example
examples =
    -- E1, "The day above"
    example e1 (true ∷ true ∷ true ∷ true ∷ false ∷ true ∷ true ∷ true ∷ false ∷ true ∷ true ∷ false ∷ [])
    -- E2: "Box 0 sends 1, 1 sends 2: join 0 with 2 gives 11, and so does join 2 with 1; after join 0 with 1, join 0 with 2
    -- is taken."
    ∷ example (Fork 0 none ∷ Fork 1 none ∷ Join 0 2 ∷ Join 2 1 ∷ Join 0 1 ∷ Join 0 2 ∷ []) (true ∷ true ∷ false ∷ false ∷ true ∷ true ∷ [])
    -- E3: "Box 0 sends 1, then 2: join 1 with 2 gives 11, and after it join 2 with 1 is taken."
    ∷ example (Fork 0 none ∷ Fork 0 none ∷ Join 1 2 ∷ Join 2 1 ∷ []) (true ∷ true ∷ false ∷ true ∷ [])
    -- E4: "Join 0 with 0: 11, but 7 while box 0 is busy."
    ∷ example (Join 0 0 ∷ Event 3 0 false ∷ Join 0 0 ∷ []) (false ∷ true ∷ false ∷ [])
    -- E7: "Two yields in a row: both taken."
    ∷ example (Event 3 0 true ∷ Yield 3 ∷ Yield 3 ∷ []) (true ∷ true ∷ true ∷ [])
    -- 2: clients 0 to 15
    ∷ example (Event 15 0 true ∷ Event 16 0 true ∷ Yield 16 ∷ Yield 15 ∷ []) (true ∷ false ∷ false ∷ true ∷ [])
    -- 3 and 7: a client goes on with its own transaction, another waits, and a revision not yet started is refused
    ∷ example (Event 0 0 true ∷ Event 0 0 false ∷ Event 1 0 true ∷ Fork 0 none ∷ Fork 5 none ∷ []) (true ∷ true ∷ false ∷ false ∷ false ∷ [])
    -- 6 and 8: the client's transaction is on another revision; after its yield its last event is not seen there
    ∷ example (Fork 0 none ∷ Event 0 0 false ∷ Event 0 1 true ∷ Yield 0 ∷ Event 0 1 true ∷ Event 0 0 true ∷ []) (true ∷ true ∷ false ∷ true ∷ false ∷ true ∷ [])
    -- 4: a joined revision is out no more
    ∷ example (Fork 0 none ∷ Join 0 1 ∷ Event 0 1 false ∷ Fork 1 none ∷ Join 0 1 ∷ []) (true ∷ true ∷ false ∷ false ∷ false ∷ [])
    -- 02, U9, 16: a mark is not written, queried or joined, in either role; it is forked and marked again
    ∷ example (Fork 0 (some abcd) ∷ Fork 0 none ∷ Event 0 1 true ∷ Event 0 1 false ∷ Join 0 1 ∷ Join 2 1 ∷ Join 1 2 ∷ Fork 1 none ∷ Fork 1 (some wxyz) ∷ [])
    (true ∷ true ∷ false ∷ false ∷ false ∷ false ∷ false ∷ true ∷ true ∷ [])
    -- 7: a busy box is not marked
    ∷ example (Event 3 0 true ∷ Fork 0 (some abcd) ∷ Yield 3 ∷ Fork 0 (some abcd) ∷ []) (true ∷ false ∷ true ∷ true ∷ [])
    -- 17: "not four letters, or in use"; a dropped name is free
    ∷ example (marks no_names) (false ∷ false ∷ false ∷ false ∷ [])
    ∷ example (marks (abcd ∷ abcd ∷ wxyz ∷ []) ++ (Drop 1 ∷ marks (wxyz ∷ abcd ∷ []))) (true ∷ false ∷ true ∷ true ∷ false ∷ true ∷ [])
    -- 4 and 18: only a mark is dropped, and once; then it is out no more
    ∷ example (Fork 0 none ∷ Drop 0 ∷ Drop 1 ∷ Fork 0 (some abcd) ∷ Drop 2 ∷ Drop 2 ∷ Fork 2 none ∷ [])
    (true ∷ false ∷ false ∷ true ∷ true ∷ false ∷ false ∷ [])
    -- coming back: of two boxes forked from a mark the later takes over the earlier; box 0 does not
    ∷ example (Fork 0 (some abcd) ∷ Event 0 0 true ∷ Yield 0 ∷ Fork 1 none ∷ Fork 1 none ∷ Event 1 2 true ∷ Yield 1 ∷ Join 0 2 ∷ Join 3 2 ∷ Drop 1 ∷ [])
    (true ∷ true ∷ true ∷ true ∷ true ∷ true ∷ true ∷ false ∷ true ∷ true ∷ [])
    ∷ []

-- a day with this many updates taken and revisions started
abbrev pub with_counts : ℕ → ℕ → Day
with_counts updates revisions = record {
  diagram = root ∷ [];
  revisions = revisions;
  start_of = fresh.start_of;
  fork_of = fresh.fork_of;
  terminal = fresh.terminal;
  joined = fresh.joined;
  numbering = record { of = λ r. r; given = revisions; freed = [] };
  mark = fresh.mark;
  updates = updates;
  last_event = fresh.last_event;
  open_by = fresh.open_by;
  transactions = 0;
  transaction = fresh.transaction;
}

abbrev pub expected : List Example → List (List Bool)
expected [] = []
expected (e ∷ es) = e.accepts ∷ expected es

abbrev pub computed : List Example → List (List Bool)
computed [] = []
computed (e ∷ es) = answers fresh e.steps ∷ computed es

-- E1's query at index 10: the joinee's update 1 comes after the joiner's update 2, and not by its number
abbrev pub e1_list : List ℕ
e1_list = 0 ∷ 2 ∷ 1 ∷ []

-- Definition 6 as printed lets a child (start 5) join its own parent (start 2), which sent it at the fork 4: the fork 1 of
-- the parent is seen at 5. But so is its start, and the parent's update 0 is applied twice.
abbrev pub before_join : Diagram
before_join = start 4 ∷ fork 3 ∷ event 2 1 (some 0) ∷ start 1 ∷ fork 0 ∷ root ∷ []

abbrev pub child_joins_parent : Diagram
child_joins_parent = join 5 4 ∷ before_join
