-- Steps on the cells without their checks, computed: forks of forks, updates on each, joins, a mark and its drop, and what the checks say after them.
use Prim.Native.Nat.{ℕ}
use mathlib.Core.Bool.{true, false}
use mathlib.Core.Path.{◌≡◌, refl}
use mathlib.Core.List.{[], ◌∷◌}
use Rattle.lists.specs.Names.{Name, four_letters}
use Rattle.lists.specs.Sums.{any_below}
use Rattle.lists.specs.Arranged.{insert_before, remove, behind}
use Rattle.cells.specs.Parts.{offset, size, rows_part, low_part, high_part, seen_part, caught_part, state_part, used_part, last_part, first_part, count_part}
use Rattle.cells.specs.Parts.{base_part, layout_part, queue_part, opened_part, counters_part, names_part, single_part, settled_part, started_part, kept_part, signature_part}
use Rattle.cells.specs.Cells.{Cells, brought, chain, freed, outs, flagged, next_number, settled_own}
use Rattle.cells.specs.Order.{order, picks}
use Rattle.cells.specs.Checks.{is_client, given_out, joined, off_line, open_elsewhere, busy, busy_by_other, stale, log_full, none_left, joinable}
use Rattle.cells.specs.Checks.{is_mark, bearer_below, bearer, no_such_mark, bad_name}
use Rattle.cells.specs.Decode.{decode}
use Rattle.cells.specs.Steps.{fresh_parts}
use Rattle.cells.specs.CellSteps.{fresh_cells, counted, one_fewer, update_cells, close_cells, fork_row, fork_cells, mark_cells, drop_cells, join_cells}

-- client 0 updates revision 0, which forks 1; 1 updates and forks 2; 2, 0 and 1 update; 0 forks 3, which updates
before : Cells
before =
    let a = update_cells (fork_cells (update_cells (fresh_cells false) 0 0) 0 1) 1 1 in
    let b = update_cells (update_cells (update_cells (fork_cells a 1 2) 2 2) 3 0) 1 1 in
    update_cells (fork_cells b 0 3) 4 3

-- 1 joins 2, then 0 joins 1
after : Cells
after = join_cells (join_cells before 1 2) 0 1

-- a joinee's updates come after the joiner's, whatever the numbers
main-order : order after 0 ≡ 0 ∷ 3 ∷ 1 ∷ 4 ∷ 2 ∷ []
unfolding before after order chain insert_before remove behind counted one_fewer
main-order = refl

other-order : order after 3 ≡ 0 ∷ 3 ∷ 5 ∷ []
unfolding before after order chain insert_before remove behind counted one_fewer
other-order = refl

forked-order : order before 2 ≡ 0 ∷ 1 ∷ 2 ∷ []
unfolding before order chain insert_before remove behind counted
forked-order = refl

left_out : outs after ≡ 3 ∷ 0 ∷ []
unfolding before after insert_before remove one_fewer
left_out = refl

-- 01, E2: "join 0 with 2 gives 11, and so does join 2 with 1; after join 0 with 1, join 0 with 2 is taken"
seen_flags : joinable before 0 2 ∷ joinable before 2 1 ∷ joinable before 0 1 ∷ joinable (join_cells before 0 1) 0 2 ∷ [] ≡ false ∷ false ∷ true ∷ true ∷ []
unfolding before
seen_flags = refl

-- client 1 was on revision 1 last: with 0 it has caught up after the joins; its transaction is still open
caught_flags : stale before 1 0 ∷ stale after 1 0 ∷ busy after 1 ∷ busy_by_other after 1 1 ∷ open_elsewhere after 1 0 ∷ busy (close_cells after 1) 1 ∷ joined after 1 ∷ [] ≡ true ∷ false ∷ true ∷ false ∷ true ∷ false ∷ true ∷ []
unfolding before after any_below
caught_flags = refl

-- the checks on a fresh day: clients 15 and 16; revisions 0 and 1 given out; nobody joined, busy or open elsewhere
fresh-checks :
    is_client 15 ∷ is_client 16 ∷ given_out (fresh_cells false) 0 ∷ given_out (fresh_cells false) 1 ∷ joined (fresh_cells false) 0 ∷ busy (fresh_cells false) 0
    ∷ busy (fresh_cells false) 63 ∷ open_elsewhere (fresh_cells false) 0 5 ∷ []
    ≡ true ∷ false ∷ true ∷ false ∷ false ∷ false ∷ false ∷ false ∷ []
unfolding any_below
fresh-checks = refl

-- 02, U8: on a single-main day another box than 0 is off the line, whatever the steps; on another day none is
off_the_line : off_line (fresh_cells true) 0 ∷ off_line (fork_cells (fresh_cells true) 0 1) 1 ∷ off_line (fresh_cells false) 1 ∷ off_line after 2 ∷ [] ≡ false ∷ true ∷ false ∷ false ∷ []
unfolding before after
off_the_line = refl

-- and the byte that fresh writes is the choice
chosen : (decode (fresh_parts true)).single ∷ (decode (fresh_parts false)).single ∷ [] ≡ true ∷ false ∷ []
chosen = refl

-- a joined revision was given out; the last client has the main revision busy
later-checks : given_out after 1 ∷ busy (update_cells (fresh_cells false) 15 0) 0 ∷ busy_by_other (update_cells (fresh_cells false) 15 0) 1 0 ∷ [] ≡ true ∷ true ∷ true ∷ []
unfolding before after any_below
later-checks = refl

-- cells that no day made: every flag set and no row in use
made : ℕ → ℕ → ℕ → Cells
made updates out given = record {
  state = λ r. 1;
  used = λ r. false;
  last = λ r. 0;
  first = λ r. 0;
  count = λ r. 0;
  base = λ r. 0;
  row = λ r u. true;
  link = λ u. 0;
  seen = λ a b. true;
  caught = λ c r. true;
  layout = [];
  out = out;
  queue = 7 ∷ 5 ∷ [];
  opened = λ c. 64;
  updates = updates;
  given = given;
  name = λ r. [];
  single = false;
  settled = 0;
  started = 1;
}

-- 01: "Update 4,096 is taken, the next gives 9"; 02, U7: "Code 10 is given exactly if 64 boxes are out", whatever was given
last_ones : log_full (made 4095 1 1) ∷ log_full (made 4096 1 1) ∷ none_left (made 0 63 64) ∷ none_left (made 0 64 1) ∷ [] ≡ false ∷ true ∷ false ∷ true ∷ []
unfolding made
last_ones = refl

-- 02, U7: "a never-used number while there is one, else the number handed in longest ago"
next_ones : next_number (made 0 61 63) ∷ next_number (made 0 62 64) ∷ [] ≡ 63 ∷ 7 ∷ []
unfolding made
next_ones = refl

freed_ones : freed (made 0 62 64) ∷ freed (fork_cells (made 0 62 64) 0 7) ∷ freed (join_cells after 0 3) ∷ [] ≡ (7 ∷ 5 ∷ []) ∷ (5 ∷ []) ∷ (2 ∷ 1 ∷ 3 ∷ []) ∷ []
unfolding made before after one_fewer
freed_ones = refl

-- neither the main revision nor the joiner is a joinee, whatever the flags; a row that is not in use counts for nothing
flags_alone : joinable (made 0 1 1) 1 1 ∷ joinable (made 0 1 1) 1 0 ∷ joinable (made 0 1 1) 0 1 ∷ flagged (made 0 1 1) 1 0 ∷ fork_row (made 0 1 1) 1 0 ∷ [] ≡ false ∷ false ∷ true ∷ false ∷ false ∷ []
unfolding chain made
flags_alone = refl

-- a fork of a fork of a fork inherits by count, by flag and from the own list
third_order : order (fork_cells before 2 4) 4 ≡ 0 ∷ 1 ∷ 2 ∷ []
unfolding before order chain insert_before remove behind counted
third_order = refl

-- 02, U9: after its first update revision 0 is marked as 1, ABCD, and goes on; 2 comes back to the mark
abcd : Name
abcd = 65 ∷ 66 ∷ 67 ∷ 68 ∷ []

abce : Name
abce = 65 ∷ 66 ∷ 67 ∷ 69 ∷ []

marked : Cells
marked = update_cells (mark_cells (update_cells (fresh_cells false) 0 0) 0 1 abcd) 0 0

mark_order : order marked 1 ∷ order (fork_cells marked 1 2) 2 ∷ order marked 0 ∷ [] ≡ (0 ∷ []) ∷ (0 ∷ []) ∷ (0 ∷ 1 ∷ []) ∷ []
unfolding marked abcd order chain insert_before behind counted
mark_order = refl

-- a mark is out; a box is none, nor is what was forked from a mark
mark_state : is_mark marked 1 ∷ joined marked 1 ∷ given_out marked 1 ∷ is_mark marked 0 ∷ is_mark (fork_cells marked 1 2) 2 ∷ [] ≡ true ∷ false ∷ true ∷ false ∷ false ∷ []
unfolding marked
mark_state = refl

-- the last of the numbers 1 to 63 whose mark bears the name; on cells that no day made 0 may be marked, and is no mark
bearers :
    bearer marked abcd ∷ bearer marked abce ∷ bearer (mark_cells marked 0 63 abcd) abcd ∷ bearer (mark_cells (fresh_cells false) 0 0 abcd) abcd ∷ []
    ≡ 1 ∷ 64 ∷ 63 ∷ 64 ∷ []
unfolding marked abcd abce bearer_below
bearers = refl

-- in use, and not; three letters, and a small one
names :
    bad_name marked abcd ∷ bad_name marked abce ∷ bad_name (fresh_cells false) abcd ∷ bad_name marked (65 ∷ 66 ∷ 67 ∷ []) ∷ bad_name marked (65 ∷ 66 ∷ 67 ∷ 97 ∷ []) ∷ []
    ≡ true ∷ false ∷ false ∷ true ∷ true ∷ []
unfolding marked abcd abce bearer_below four_letters
names = refl

-- a drop takes the number back, and the name may be given again
dropped : Cells
dropped = drop_cells marked 1

drop_state : joined dropped 1 ∷ is_mark dropped 1 ∷ no_such_mark dropped abcd ∷ bad_name dropped abcd ∷ [] ≡ true ∷ false ∷ true ∷ false ∷ []
unfolding dropped marked abcd bearer_below four_letters
drop_state = refl

drop_frees : outs marked ∷ outs dropped ∷ freed dropped ∷ [] ≡ (1 ∷ 0 ∷ []) ∷ (0 ∷ []) ∷ (1 ∷ []) ∷ []
unfolding dropped marked insert_before remove one_fewer
drop_frees = refl

-- 02, U10: clients 0 and 3 were on revision 0: nothing of it is settled until a transaction there is closed, and then all; a close on
-- another revision settles nothing; a join into another neither, and one into it settles its list and the joinee's, in their order
settles :
    settled_own before ∷ settled_own (close_cells before 1) ∷ settled_own (close_cells before 3) ∷ settled_own (join_cells before 1 2) ∷ settled_own after ∷ []
    ≡ [] ∷ [] ∷ (0 ∷ 3 ∷ []) ∷ [] ∷ (0 ∷ 3 ∷ 1 ∷ 4 ∷ 2 ∷ []) ∷ []
unfolding before after chain counted
settles = refl

-- a close brings the whole transaction; what was settled before is not brought again
brings :
    brought before (close_cells before 3) ∷ brought (close_cells before 3) (join_cells (close_cells before 3) 0 3) ∷ brought after (update_cells after 3 0) ∷ []
    ≡ (0 ∷ 3 ∷ []) ∷ (5 ∷ []) ∷ [] ∷ []
unfolding before after chain counted
brings = refl

-- each entry once, in its order
picked : picks 1 (λ u. true) (5 ∷ 6 ∷ []) ≡ 5 ∷ 6 ∷ []
picked = refl

-- docs/CELLS.md, "The parts": where each part lies
offsets :
    offset rows_part ∷ offset low_part ∷ offset high_part ∷ offset seen_part ∷ offset caught_part ∷ offset state_part ∷ offset used_part ∷ offset last_part
    ∷ offset first_part ∷ offset count_part ∷ offset base_part ∷ offset layout_part ∷ offset queue_part ∷ offset opened_part ∷ offset counters_part
    ∷ offset names_part ∷ offset single_part ∷ offset settled_part ∷ offset started_part ∷ offset kept_part ∷ offset signature_part ∷ []
    ≡ 0 ∷ 32256 ∷ 36352 ∷ 38400 ∷ 38912 ∷ 39040 ∷ 39104 ∷ 39168 ∷ 39296 ∷ 39424 ∷ 39552 ∷ 39680 ∷ 39744 ∷ 39808 ∷ 39824 ∷ 39828 ∷ 40084 ∷ 40085 ∷ 40087 ∷ 40089 ∷ 40952 ∷ []
unfolding offset size
offsets = refl
