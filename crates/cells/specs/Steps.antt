-- No claim rests on this file: it serves the code.
-- What each accepted step writes: docs/CELLS.md, "What each step writes". On parts, and so on the bytes.
use Rattle.std.specs.Prelude.{ℕ, zero, suc, ◌/◌, ◌%◌, Bool, true, cond, List, [], ◌∷◌, ◌++◌, eqb, set, take, replicate}
use Rattle.lists.specs.Arranged.{insert_before, remove}
use Rattle.lists.specs.Names.{Name}
use Rattle.cells.specs.Sizes.{revisions, clients, main, closed, state_out, state_joined, state_marked}
use Rattle.cells.specs.Parts.{Parts, split, glue, size, ◌⟨◌≔◌⟩, rows_part, low_part, high_part, seen_part, caught_part, state_part, used_part, last_part, first_part}
use Rattle.cells.specs.Parts.{count_part, base_part, layout_part, queue_part, opened_part, counters_part, names_part, single_part, settled_part, started_part, signature_part}
use Rattle.cells.specs.Words.{put_word, put_half, put_name}
use Rattle.cells.specs.Flags.{pack, put_row}
use Rattle.cells.specs.Decode.{decode}
use Rattle.cells.specs.Range.{signature}
use Rattle.lists.specs.Pool.{fork_pool, join_pool}
use Rattle.cells.specs.CellSteps.{counted, one_fewer, close_settled, fork_caught, fork_row, fork_given, fork_queue, fork_started, spliced, join_caught, join_count, join_settled, drop_queue}

-- all bytes 0 but these
abbrev pub fresh_parts : Bool → Parts
fresh_parts single =
    (λ i. replicate (size i) 0)
    ⟨ caught_part ≔ pack clients (λ c r. true) ⟩
    ⟨ state_part ≔ set (replicate revisions 0) main state_out ⟩
    ⟨ layout_part ≔ replicate revisions main ⟩
    ⟨ queue_part ≔ replicate revisions 1 ⟩
    ⟨ opened_part ≔ replicate clients closed ⟩
    ⟨ counters_part ≔ 0 ∷ 0 ∷ 1 ∷ 1 ∷ [] ⟩
    ⟨ single_part ≔ cond single 1 0 ∷ [] ⟩
    ⟨ started_part ≔ 1 ∷ 0 ∷ [] ⟩
    ⟨ signature_part ≔ signature ⟩

-- client c's row of caught-up flags has r alone; its open transaction is on r
abbrev pub query_parts : Parts → ℕ → ℕ → Parts
query_parts p c r =
    p
    ⟨ caught_part ≔ put_row 8 (p caught_part) c (λ x. eqb x r) ⟩
    ⟨ opened_part ≔ set (p opened_part) c r ⟩

abbrev pub link_parts : Parts → ℕ → ℕ → Parts
link_parts p u v =
    p
    ⟨ low_part ≔ set (p low_part) u (v % 256) ⟩
    ⟨ high_part ≔ put_half (p high_part) u (v / 256) ⟩

-- the next number at the end of r's own list
abbrev pub append_parts : Parts → ℕ → Parts
append_parts p r =
    let k = decode p in
    link_parts p k.updates (k.last r)
    ⟨ last_part ≔ put_word (p last_part) r k.updates ⟩
    ⟨ first_part ≔ put_word (p first_part) r (cond (eqb (k.count r) 0) k.updates (k.first r)) ⟩
    ⟨ count_part ≔ put_word (p count_part) r (counted (suc (k.count r))) ⟩
    ⟨ counters_part ≔ put_word (p counters_part) 0 (suc k.updates) ⟩

abbrev pub update_parts : Parts → ℕ → ℕ → Parts
update_parts p c r = query_parts (append_parts p r) c r

abbrev pub close_parts : Parts → ℕ → Parts
close_parts p c =
    p
    ⟨ opened_part ≔ set (p opened_part) c closed ⟩
    ⟨ settled_part ≔ put_word (p settled_part) 0 (close_settled (decode p) c) ⟩

-- the row of revision r, which is 1 or more
abbrev pub put_row_of : List ℕ → ℕ → (ℕ → Bool) → List ℕ
put_row_of t zero f = t
put_row_of t (suc r) f = put_row 512 t r f

-- what c inherits from p: by count alone where p is the main revision
abbrev pub inherit_parts : Parts → ℕ → ℕ → Parts
inherit_parts p q c =
    let k = decode p in
    p
    ⟨ rows_part ≔ cond (eqb q main) (p rows_part) (put_row_of (p rows_part) c (fork_row k q)) ⟩
    ⟨ used_part ≔ set (p used_part) c (cond (eqb q main) 0 1) ⟩
    ⟨ base_part ≔ put_word (p base_part) c (cond (eqb q main) (k.count main) (k.base q)) ⟩
    ⟨ count_part ≔ put_word (p count_part) c 0 ⟩

-- q forks c, which stands right of q in the day's sense: in front of it in the layout. Marks and other forks alike
abbrev pub branch_parts : Parts → ℕ → ℕ → Parts
branch_parts p q c =
    let k = decode p in
    inherit_parts p q c
    ⟨ seen_part ≔ pack revisions (fork_pool k.seen q c) ⟩
    ⟨ caught_part ≔ pack clients (fork_caught k.caught q c) ⟩
    ⟨ state_part ≔ set (p state_part) c state_out ⟩
    ⟨ layout_part ≔ take revisions (insert_before q c (p layout_part)) ⟩
    ⟨ queue_part ≔ fork_queue k ⟩
    ⟨ counters_part ≔ set (set (p counters_part) 2 (suc k.out)) 3 (fork_given k) ⟩

-- 02, U14: a box is started
abbrev pub fork_parts : Parts → ℕ → ℕ → Parts
fork_parts p q c = branch_parts p q c ⟨ started_part ≔ put_word (p started_part) 0 (fork_started (decode p)) ⟩

-- 02, U9: "A mark forks an idle box .. and gives the new box a name"
abbrev pub mark_parts : Parts → ℕ → ℕ → Name → Parts
mark_parts p q c n =
    branch_parts p q c
    ⟨ state_part ≔ set (p state_part) c state_marked ⟩
    ⟨ names_part ≔ put_name (p names_part) c n ⟩

-- b's own list goes to the end of a's, unless it is empty
abbrev pub splice_parts : Parts → ℕ → ℕ → Parts
splice_parts p a b =
    let k = decode p in
    p
    ⟨ low_part ≔ spliced k b (p low_part) (set (p low_part) (k.first b) (k.last a % 256)) ⟩
    ⟨ high_part ≔ spliced k b (p high_part) (put_half (p high_part) (k.first b) (k.last a / 256)) ⟩
    ⟨ last_part ≔ spliced k b (p last_part) (put_word (p last_part) a (k.last b)) ⟩
    ⟨ first_part ≔ spliced k b (p first_part) (put_word (p first_part) a (cond (eqb (k.count a) 0) (k.first b) (k.first a))) ⟩

-- a gets b's own list, what b has seen, and who has caught up with b
abbrev pub merge_parts : Parts → ℕ → ℕ → Parts
merge_parts p a b =
    let k = decode p in
    splice_parts p a b
    ⟨ count_part ≔ put_word (p count_part) a (join_count k a b) ⟩
    ⟨ settled_part ≔ put_word (p settled_part) 0 (join_settled k a b) ⟩
    ⟨ seen_part ≔ put_row 8 (p seen_part) a (join_pool k.seen a b a) ⟩
    ⟨ caught_part ≔ pack clients (join_caught k.caught a b) ⟩

-- 02, U9: "Dropping a mark .. frees its number as a hand-in does". Where r stands in no place of the layout, the layout stays
abbrev pub drop_parts : Parts → ℕ → Parts
drop_parts p r =
    let k = decode p in
    p
    ⟨ state_part ≔ set (p state_part) r state_joined ⟩
    ⟨ layout_part ≔ take revisions (remove r (p layout_part) ++ (0 ∷ [])) ⟩
    ⟨ queue_part ≔ drop_queue k r ⟩
    ⟨ counters_part ≔ set (p counters_part) 2 (one_fewer k.out) ⟩

-- a joins b, which is handed in
abbrev pub join_parts : Parts → ℕ → ℕ → Parts
join_parts p a b = drop_parts (merge_parts p a b) b

-- the same on the bytes
unfoldable pub fresh_bytes : Bool → List ℕ
fresh_bytes single = glue (fresh_parts single)

unfoldable pub query_bytes : List ℕ → ℕ → ℕ → List ℕ
query_bytes d c r = glue (query_parts (split d) c r)

unfoldable pub update_bytes : List ℕ → ℕ → ℕ → List ℕ
update_bytes d c r = glue (update_parts (split d) c r)

unfoldable pub close_bytes : List ℕ → ℕ → List ℕ
close_bytes d c = glue (close_parts (split d) c)

unfoldable pub fork_bytes : List ℕ → ℕ → ℕ → List ℕ
fork_bytes d q c = glue (fork_parts (split d) q c)

unfoldable pub mark_bytes : List ℕ → ℕ → ℕ → Name → List ℕ
mark_bytes d q c n = glue (mark_parts (split d) q c n)

unfoldable pub join_bytes : List ℕ → ℕ → ℕ → List ℕ
join_bytes d a b = glue (join_parts (split d) a b)

unfoldable pub drop_bytes : List ℕ → ℕ → List ℕ
drop_bytes d r = glue (drop_parts (split d) r)
