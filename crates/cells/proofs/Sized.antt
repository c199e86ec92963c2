-- Every part keeps its size through each step.
use Prim.Native.Nat.{ℕ, zero, suc, ◌-◌, ◌/◌, ◌%◌, ◌<◌, ◌≤◌}
use mathlib.Core.Bool.{Bool, true, false, cond}
use mathlib.Core.Path.{◌≡◌, refl, ◌∙◌}
use mathlib.Core.List.{List, [], ◌∷◌, ◌++◌}
use native.Mathlib.Omega.{arith}
use lib.Dec.{eqb, ltb}
use lib.ListN.{length, set, take, replicate, length-set, length-replicate}
use lib.Seq.{length-take-le}
use Rattle.lists.specs.Lists.{rest_of}
use Rattle.lists.specs.Arranged.{insert_before, remove}
use Rattle.lists.specs.Names.{Name}
use Rattle.cells.specs.Sizes.{revisions, clients, main, closed, state_out, state_joined, state_marked}
use Rattle.cells.specs.Parts.{Parts, Sized, size, ◌⟨◌≔◌⟩, rows_part, low_part, high_part, seen_part, caught_part, state_part, used_part, last_part, first_part}
use Rattle.cells.specs.Parts.{count_part, base_part, layout_part, queue_part, opened_part, counters_part, names_part, single_part, settled_part, started_part, signature_part}
use Rattle.cells.specs.Words.{put_word, put_half, put_name}
use Rattle.cells.specs.Flags.{pack, put_row}
use Rattle.cells.specs.Decode.{decode}
use Rattle.cells.specs.Range.{signature}
use Rattle.lists.specs.Pool.{fork_pool, join_pool}
use Rattle.cells.specs.CellSteps.{one_fewer, close_settled, fork_row, fork_caught, fork_given, fork_queue, fork_started, spliced, join_caught, join_count, join_settled}
use Rattle.cells.specs.Steps.{fresh_parts, query_parts, link_parts, append_parts, update_parts, close_parts, put_row_of}
use Rattle.cells.specs.Steps.{inherit_parts, branch_parts, fork_parts, mark_parts, splice_parts, merge_parts, drop_parts, join_parts}
use Rattle.cells.proofs.Parts.{sized_with}
use Rattle.cells.proofs.Words.{put_word-length, put_half-length, put_name-length}
use Rattle.cells.proofs.Flags.{put_row-length, pack-length}
use Rattle.cells.proofs.Places.{insert_length, remove-length, shift_length}

pub put_row_of-length : (t : List ℕ) (r : ℕ) (f : ℕ → Bool) → length t ≡ 32256 → r < revisions → length (put_row_of t r f) ≡ length t
put_row_of-length t zero f l h = refl
put_row_of-length t (suc r) f l h = put_row-length 512 63 t r f (omega arith) (omega arith)

-- one part written
pub word_sized : {p : Parts} → Sized p → (i r v : ℕ) → Sized (p ⟨ i ≔ put_word (p i) r v ⟩)
word_sized {p} h i r v = sized_with h i (put_word (p i) r v) (put_word-length (p i) r v ∙ h.of i)

pub byte_sized : {p : Parts} → Sized p → (i r v : ℕ) → Sized (p ⟨ i ≔ set (p i) r v ⟩)
byte_sized {p} h i r v = sized_with h i (set (p i) r v) (length-set (p i) r v ∙ h.of i)

pub seen_sized : {p : Parts} → Sized p → (f : ℕ → ℕ → Bool) → Sized (p ⟨ seen_part ≔ pack revisions f ⟩)
unfolding size
seen_sized h f = sized_with h seen_part (pack revisions f) (pack-length revisions f)

pub caught_sized : {p : Parts} → Sized p → (f : ℕ → ℕ → Bool) → Sized (p ⟨ caught_part ≔ pack clients f ⟩)
unfolding size
caught_sized h f = sized_with h caught_part (pack clients f) (pack-length clients f)

pub seen_row_sized : {p : Parts} → Sized p → (a : ℕ) (f : ℕ → Bool) → a < revisions → Sized (p ⟨ seen_part ≔ put_row 8 (p seen_part) a f ⟩)
unfolding size
seen_row_sized {p} h a f l = let s = h.of seen_part in sized_with h seen_part (put_row 8 (p seen_part) a f) (put_row-length 8 revisions (p seen_part) a f s l ∙ s)

pub caught_row_sized : {p : Parts} → Sized p → (c : ℕ) (f : ℕ → Bool) → c < clients → Sized (p ⟨ caught_part ≔ put_row 8 (p caught_part) c f ⟩)
unfolding size
caught_row_sized {p} h c f l = let s = h.of caught_part in sized_with h caught_part (put_row 8 (p caught_part) c f) (put_row-length 8 clients (p caught_part) c f s l ∙ s)

-- the first 64 places of a longer layout
pub layout_sized : {p : Parts} → Sized p → (l : List ℕ) → length (p layout_part) ≤ length l → Sized (p ⟨ layout_part ≔ take revisions l ⟩)
unfolding size
layout_sized h l m = let s = h.of layout_part in sized_with h layout_part (take revisions l) (length-take-le revisions l (omega arith))

pub link_sized : {p : Parts} → Sized p → (u v : ℕ) → Sized (link_parts p u v)
link_sized {p} h u v = sized_with (sized_with h low_part (set (p low_part) u (v % 256)) (length-set (p low_part) u _ ∙ h.of low_part)) high_part (put_half (p high_part) u (v / 256)) (put_half-length (p high_part) u _ ∙ h.of high_part)

pub row_sized : {p : Parts} → Sized p → (b : Bool) (c : ℕ) (f : ℕ → Bool) → c < revisions → Sized (p ⟨ rows_part ≔ cond b (p rows_part) (put_row_of (p rows_part) c f) ⟩)
unfolding size
row_sized {p} h true c f l = sized_with h rows_part (p rows_part) (h.of rows_part)
row_sized {p} h false c f l = let s = h.of rows_part in sized_with h rows_part (put_row_of (p rows_part) c f) (put_row_of-length (p rows_part) c f s l ∙ s)

-- the steps
pub query_sized : {p : Parts} → Sized p → (c r : ℕ) → c < clients → Sized (query_parts p c r)
query_sized h c r l = byte_sized (caught_row_sized h c (λ x. eqb x r) l) opened_part c r

pub append_sized : {p : Parts} → Sized p → (r : ℕ) → Sized (append_parts p r)
append_sized {p} h r =
    let k = decode p in
    let a = word_sized (link_sized h k.updates (k.last r)) last_part r k.updates in
    let b = word_sized a first_part r (cond (eqb (k.count r) 0) k.updates (k.first r)) in
    word_sized (word_sized b count_part r _) counters_part 0 (suc k.updates)

pub update_sized : {p : Parts} → Sized p → (c r : ℕ) → c < clients → Sized (update_parts p c r)
update_sized h c r l = query_sized (append_sized h r) c r l

pub close_sized : {p : Parts} → Sized p → (c : ℕ) → Sized (close_parts p c)
close_sized {p} h c = word_sized (byte_sized h opened_part c closed) settled_part 0 (close_settled (decode p) c)

pub inherit_sized : {p : Parts} → Sized p → (q c : ℕ) → c < revisions → Sized (inherit_parts p q c)
inherit_sized {p} h q c l =
    let k = decode p in
    let a = byte_sized (row_sized h (eqb q main) c (fork_row k q) l) used_part c (cond (eqb q main) 0 1) in
    word_sized (word_sized a base_part c (cond (eqb q main) (k.count main) (k.base q))) count_part c 0

pub branch_sized : {p : Parts} → Sized p → (q c : ℕ) → c < revisions → Sized (branch_parts p q c)
unfolding size
branch_sized {p} h q c l =
    let k = decode p in
    let a = caught_sized (seen_sized (inherit_sized h q c l) (fork_pool k.seen q c)) (fork_caught k.caught q c) in
    let b = layout_sized (byte_sized a state_part c state_out) (insert_before q c (p layout_part)) (insert_length q c (p layout_part)) in
    let q = sized_with b queue_part (fork_queue k) (shifted (ltb k.given revisions)) in
    sized_with q counters_part (set (set (p counters_part) 2 (suc k.out)) 3 (fork_given k)) (simp length-set (h.of counters_part))
  where
    shifted : (t : Bool) → length (cond t (p queue_part) (rest_of (p queue_part) ++ (1 ∷ []))) ≡ size queue_part
    shifted true = h.of queue_part
    shifted false = let s = h.of queue_part in shift_length (p queue_part) (omega arith) ∙ s

pub fork_sized : {p : Parts} → Sized p → (q c : ℕ) → c < revisions → Sized (fork_parts p q c)
fork_sized {p} h q c l = word_sized (branch_sized h q c l) started_part 0 (fork_started (decode p))

pub mark_sized : {p : Parts} → Sized p → (q c : ℕ) (n : Name) → c < revisions → Sized (mark_parts p q c n)
mark_sized {p} h q c n l =
    let s = sized_with (branch_sized h q c l) state_part (set (p state_part) c state_marked) (length-set (p state_part) c _ ∙ h.of state_part) in
    sized_with s names_part (put_name (p names_part) c n) (put_name-length (p names_part) c n ∙ h.of names_part)

pub splice_sized : {p : Parts} → Sized p → (a b : ℕ) → Sized (splice_parts p a b)
splice_sized {p} h a b =
    let k = decode p in
    let t = sized_with h low_part (spliced k b (p low_part) (set (p low_part) (k.first b) (k.last a % 256))) (either-size (eqb (k.count b) 0) low_part _ (length-set (p low_part) (k.first b) _)) in
    let u = sized_with t high_part (spliced k b (p high_part) (put_half (p high_part) (k.first b) (k.last a / 256))) (either-size (eqb (k.count b) 0) high_part _ (put_half-length (p high_part) (k.first b) _)) in
    let v = sized_with u last_part (spliced k b (p last_part) (put_word (p last_part) a (k.last b))) (either-size (eqb (k.count b) 0) last_part _ (put_word-length (p last_part) a _)) in
    sized_with v first_part (spliced k b (p first_part) (put_word (p first_part) a (cond (eqb (k.count a) 0) (k.first b) (k.first a)))) (either-size (eqb (k.count b) 0) first_part _ (put_word-length (p first_part) a _))
  where
    either-size : (t : Bool) (i : ℕ) (l : List ℕ) → length l ≡ length (p i) → length (cond t (p i) l) ≡ size i
    either-size true i l e = h.of i
    either-size false i l e = e ∙ h.of i

pub merge_sized : {p : Parts} → Sized p → (a b : ℕ) → a < revisions → Sized (merge_parts p a b)
merge_sized {p} h a b l =
    let k = decode p in
    let s = word_sized (word_sized (splice_sized h a b) count_part a (join_count k a b)) settled_part 0 (join_settled k a b) in
    caught_sized (seen_row_sized s a (join_pool k.seen a b a) l) (join_caught k.caught a b)

pub drop_sized : {p : Parts} → Sized p → (r : ℕ) → Sized (drop_parts p r)
drop_sized {p} h r =
    let k = decode p in
    let l = layout_sized (byte_sized h state_part r state_joined) (remove r (p layout_part) ++ (0 ∷ [])) (remove-length r (p layout_part)) in
    byte_sized (byte_sized l queue_part (k.given - k.out) r) counters_part 2 (one_fewer k.out)

pub join_sized : {p : Parts} → Sized p → (a b : ℕ) → a < revisions → Sized (join_parts p a b)
join_sized h a b l = drop_sized (merge_sized h a b l) b

pub fresh_sized : (single : Bool) → Sized (fresh_parts single)
unfolding size signature
fresh_sized single =
    let z : Sized (λ i. replicate (size i) 0) = record { of = λ i. length-replicate (size i) 0 } in
    let f = sized_with (caught_sized z (λ c r. true)) state_part (set (replicate revisions 0) main state_out) refl in
    let a = sized_with f layout_part (replicate revisions main) refl in
    let b = sized_with (sized_with (sized_with a queue_part (replicate 64 1) refl) opened_part (replicate 16 closed) refl) counters_part (0 ∷ 0 ∷ 1 ∷ 1 ∷ []) refl in
    let d = sized_with (sized_with b single_part (cond single 1 0 ∷ []) refl) started_part (1 ∷ 0 ∷ []) refl in
    sized_with d signature_part signature refl
