-- No claim rests on this file: it serves the code.
-- What each accepted step does to the cells: docs/CELLS.md, "What each step writes".
use Rattle.std.specs.Prelude.{ℕ, suc, ◌+◌, ◌-◌, Bool, true, false, cond, ◌||◌, ◌&&◌, List, [], ◌∷◌, ◌++◌, eqb, ltb, set, take, replicate}
use Rattle.lists.specs.Lists.{changed, rest_of}
use Rattle.lists.specs.Arranged.{member, insert_before, remove}
use Rattle.lists.specs.Names.{Name}
use Rattle.lists.specs.Pool.{fork_pool, join_pool}
use Rattle.cells.specs.Sizes.{revisions, clients, updates, main, closed, state_out, state_joined, state_marked}
use Rattle.cells.specs.Cells.{Cells, own, flagged}

-- a fresh day: the main revision is out; a client without events may start anywhere. 02, U8: "Fresh gains a choice of such a day."
abbrev pub fresh_cells : Bool → Cells
fresh_cells single = record {
  state = λ r. cond (eqb r main) state_out 0;
  used = λ r. false;
  last = λ r. 0;
  first = λ r. 0;
  count = λ r. 0;
  base = λ r. 0;
  row = λ r u. false;
  link = λ u. 0;
  seen = λ a b. false;
  caught = λ c r. ltb c clients && ltb r revisions;
  layout = replicate revisions 0;
  out = 1;
  queue = replicate revisions 1;
  opened = λ c. cond (ltb c clients) closed 0;
  updates = 0;
  given = 1;
  name = λ r. 0 ∷ 0 ∷ 0 ∷ 0 ∷ [];
  single = single;
  settled = 0;
  started = 1;
}

-- after its event a client has caught up with that revision alone
abbrev pub only_caught : (ℕ → ℕ → Bool) → ℕ → ℕ → ℕ → ℕ → Bool
only_caught caught c r = changed caught c (λ x. eqb x r)

-- a query by client c on r: an event, in c's transaction on r
abbrev pub query_cells : Cells → ℕ → ℕ → Cells
query_cells k c r = record {
  state = k.state;
  used = k.used;
  last = k.last;
  first = k.first;
  count = k.count;
  base = k.base;
  row = k.row;
  link = k.link;
  seen = k.seen;
  caught = only_caught k.caught c r;
  layout = k.layout;
  out = k.out;
  queue = k.queue;
  opened = changed k.opened c r;
  updates = k.updates;
  given = k.given;
  name = k.name;
  single = k.single;
  settled = k.settled;
  started = k.started;
}

-- a count stops at its range. On a day none would pass it: the log is full first
unfoldable pub counted : ℕ → ℕ
counted n = cond (ltb n updates) n updates

-- one revision fewer is out, and one at least: on a day the main revision is
unfoldable pub one_fewer : ℕ → ℕ
one_fewer n = cond (ltb 1 n) (n - 1) 1

-- an update besides: the next number goes to the end of r's own list
abbrev pub update_cells : Cells → ℕ → ℕ → Cells
update_cells k c r = record {
  state = k.state;
  used = k.used;
  last = changed k.last r k.updates;
  first = changed k.first r (cond (eqb (k.count r) 0) k.updates (k.first r));
  count = changed k.count r (counted (suc (k.count r)));
  base = k.base;
  row = k.row;
  link = changed k.link k.updates (k.last r);
  seen = k.seen;
  caught = only_caught k.caught c r;
  layout = k.layout;
  out = k.out;
  queue = k.queue;
  opened = changed k.opened c r;
  updates = suc k.updates;
  given = k.given;
  name = k.name;
  single = k.single;
  settled = k.settled;
  started = k.started;
}

-- where c's transaction is on the main revision, a close leaves none open there: a revision is busy with one at most
abbrev pub close_settled : Cells → ℕ → ℕ
close_settled k c = cond (eqb (k.opened c) main) (k.count main) k.settled

-- "Yield: the open transaction, if any, is closed."
abbrev pub close_cells : Cells → ℕ → Cells
close_cells k c = record {
  state = k.state;
  used = k.used;
  last = k.last;
  first = k.first;
  count = k.count;
  base = k.base;
  row = k.row;
  link = k.link;
  seen = k.seen;
  caught = k.caught;
  layout = k.layout;
  out = k.out;
  queue = k.queue;
  opened = changed k.opened c closed;
  updates = k.updates;
  given = k.given;
  name = k.name;
  single = k.single;
  settled = close_settled k c;
  started = k.started;
}

-- who has caught up with p has caught up with c
abbrev pub fork_caught : (ℕ → ℕ → Bool) → ℕ → ℕ → ℕ → ℕ → Bool
fork_caught caught p c x = changed (caught x) c (caught x p)

-- what a revision forked from p inherits otherwise than by its base count
abbrev pub fork_row : Cells → ℕ → ℕ → Bool
fork_row k p u = ltb u updates && (flagged k p u || member u (own k p))

-- a never-used number is one more used; else the number handed in longest ago leaves the queue
abbrev pub fork_given : Cells → ℕ
fork_given k = cond (ltb k.given revisions) (suc k.given) k.given

abbrev pub fork_queue : Cells → List ℕ
fork_queue k = cond (ltb k.given revisions) k.queue (rest_of k.queue ++ (1 ∷ []))

-- 02, U14: "the count stops at 65,535 and stays there"
abbrev pub fork_started : Cells → ℕ
fork_started k = cond (ltb k.started 65535) (suc k.started) k.started

-- p forks c. From the main revision c inherits by count alone; else p's count, p's row and p's own list
abbrev pub fork_cells : Cells → ℕ → ℕ → Cells
fork_cells k p c = record {
  state = changed k.state c state_out;
  used = changed k.used c (cond (eqb p main) false true);
  last = k.last;
  first = k.first;
  count = changed k.count c 0;
  base = changed k.base c (cond (eqb p main) (k.count main) (k.base p));
  row = cond (eqb p main) k.row (changed k.row c (fork_row k p));
  link = k.link;
  seen = fork_pool k.seen p c;
  caught = fork_caught k.caught p c;
  layout = take revisions (insert_before p c k.layout);
  out = suc k.out;
  queue = fork_queue k;
  opened = k.opened;
  updates = k.updates;
  given = fork_given k;
  name = k.name;
  single = k.single;
  settled = k.settled;
  started = fork_started k;
}

-- 02, U9: "A mark forks an idle box .. and gives the new box a name"; U14: "marks not counted"
abbrev pub mark_cells : Cells → ℕ → ℕ → Name → Cells
mark_cells k p c n =
    let f = fork_cells k p c in
    record {
      state = changed k.state c state_marked;
      used = f.used;
      last = f.last;
      first = f.first;
      count = f.count;
      base = f.base;
      row = f.row;
      link = f.link;
      seen = f.seen;
      caught = f.caught;
      layout = f.layout;
      out = f.out;
      queue = f.queue;
      opened = f.opened;
      updates = f.updates;
      given = f.given;
      name = changed k.name c n;
      single = f.single;
      settled = f.settled;
      started = k.started;
    }

-- where b has updates of its own they go to the end of a's list
abbrev pub spliced : {A : Type 0} → Cells → ℕ → A → A → A
spliced k b kept new = cond (eqb (k.count b) 0) kept new

abbrev pub join_caught : (ℕ → ℕ → Bool) → ℕ → ℕ → ℕ → ℕ → Bool
join_caught caught a b x = changed (caught x) a (caught x a || caught x b)

abbrev pub join_count : Cells → ℕ → ℕ → ℕ
join_count k a b = counted (k.count a + k.count b)

-- a revision that joins, or is joined, is not busy
abbrev pub join_settled : Cells → ℕ → ℕ → ℕ
join_settled k a b = cond (eqb a main) (join_count k a b) k.settled

-- a gets b's own list, what b has seen, and who has caught up with b
abbrev pub merge_cells : Cells → ℕ → ℕ → Cells
merge_cells k a b = record {
  state = k.state;
  used = k.used;
  last = spliced k b k.last (changed k.last a (k.last b));
  first = spliced k b k.first (changed k.first a (cond (eqb (k.count a) 0) (k.first b) (k.first a)));
  count = changed k.count a (join_count k a b);
  base = k.base;
  row = k.row;
  link = spliced k b k.link (changed k.link (k.first b) (k.last a));
  seen = join_pool k.seen a b;
  caught = join_caught k.caught a b;
  layout = k.layout;
  out = k.out;
  queue = k.queue;
  opened = k.opened;
  updates = k.updates;
  given = k.given;
  name = k.name;
  single = k.single;
  settled = join_settled k a b;
  started = k.started;
}

-- r's number goes to the end of the queue
abbrev pub drop_queue : Cells → ℕ → List ℕ
drop_queue k r = set k.queue (k.given - k.out) r

-- 02, U9: "Dropping a mark .. frees its number as a hand-in does": r is out of the layout
abbrev pub drop_cells : Cells → ℕ → Cells
drop_cells k r = record {
  state = changed k.state r state_joined;
  used = k.used;
  last = k.last;
  first = k.first;
  count = k.count;
  base = k.base;
  row = k.row;
  link = k.link;
  seen = k.seen;
  caught = k.caught;
  layout = take revisions (remove r k.layout ++ (0 ∷ []));
  out = one_fewer k.out;
  queue = drop_queue k r;
  opened = k.opened;
  updates = k.updates;
  given = k.given;
  name = k.name;
  single = k.single;
  settled = k.settled;
  started = k.started;
}

-- a joins b, which is handed in
abbrev pub join_cells : Cells → ℕ → ℕ → Cells
join_cells k a b = drop_cells (merge_cells k a b) b
