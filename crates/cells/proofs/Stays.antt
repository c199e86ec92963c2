-- A step leaves every cell in its range, of any bytes in range: also of those that no day made.
use Prim.Native.Nat.{ℕ, suc, ◌+◌, ◌-◌, ◌*◌, ◌/◌, ◌%◌, ◌<◌, ◌≤◌}
use mathlib.Core.Bool.{Bool, true, cond, not, ◌&&◌, false}
use mathlib.Core.Path.{◌≡◌, refl, sym, ◌∙◌, ap}
use mathlib.Core.Logic.{◌⊎◌, inl, inr}
use mathlib.Core.List.Memᴰ
use mathlib.Core.List.{List, [], ◌∷◌, ◌++◌}
use native.Mathlib.Omega.{arith}
use lib.Dec.{eqb, ltb}
use lib.ListN.{length, set, take, length-append, length-set}
use lib.Seq.{get_or_at, get_or-set_other, get_or-set_same}
use borrow.Author.Tests.{eqb-false, lt-ltb, ltb-true, not-true}
use Rattle.lists.specs.Lists.{◌∈◌, rest_of}
use Rattle.lists.specs.Arranged.{insert_before, remove}
use Rattle.lists.specs.Names.{Name}
use Rattle.lists.proofs.Cases.{and-true, cases, cond_all, either}
use Rattle.lists.proofs.Changed.{changed_at}
use Rattle.lists.proofs.Places.{get_or_in, insert_back, place, remove_back, rest_in, set_in, take_in}
use Rattle.cells.specs.Sizes.{lower_bytes, revisions, clients, updates, main, closed, state_out, state_joined, state_marked}
use Rattle.cells.specs.Tables.{every}
use Rattle.cells.specs.Parts.{Parts, Sized, glue, size, split, rows_part, low_part, high_part, seen_part, caught_part, state_part, used_part, last_part, first_part}
use Rattle.cells.specs.Parts.{count_part, base_part, layout_part, queue_part, opened_part, counters_part, names_part, settled_part, started_part}
use Rattle.cells.specs.Words.{byte, word, put_word, put_half, put_name}
use Rattle.cells.specs.Flags.{pack, put_row}
use Rattle.cells.specs.Cells.{Cells}
use Rattle.cells.specs.Checks.{joinable}
use Rattle.cells.specs.Decode.{decode, cells}
use Rattle.cells.specs.Range.{counters_in, in_range, parts_in, signature, words_below}
use Rattle.lists.specs.Pool.{fork_pool, join_pool}
use Rattle.cells.specs.CellSteps.{counted, one_fewer, close_settled, fork_caught, fork_given, fork_queue, fork_row, fork_started, join_caught, join_count, join_settled, spliced}
use Rattle.cells.specs.Steps.{fresh_parts, query_parts, append_parts, update_parts, close_parts, put_row_of}
use Rattle.cells.specs.Steps.{inherit_parts, branch_parts, fork_parts, mark_parts, splice_parts, merge_parts, drop_parts, join_parts}
use Rattle.cells.specs.Steps.{fresh_bytes, query_bytes, update_bytes, close_bytes, fork_bytes, mark_bytes, join_bytes, drop_bytes}
use Rattle.cells.proofs.Tables.{every_all, every_at}
use Rattle.cells.proofs.Words.{byte_put_other, word_put, word-set-other}
use Rattle.cells.proofs.Parts.{glue-length, split-glue, split_sized}
use Rattle.cells.proofs.Sized.{append_sized, close_sized, drop_sized, fork_sized, fresh_sized, join_sized, mark_sized, merge_sized, query_sized, update_sized}
use Rattle.cells.proofs.Places.{shift_length}
use Rattle.cells.proofs.Stops.{counted_few, fewer_most, fewer_some}
use Rattle.cells.proofs.Range.{Ranged, Ranges, counters-in, parts_ranged, part_in, ranged_in, ranged_ranges, ranged_with}

-- bytes that each pass a test: so does each byte of a row that has no others but v, which passes too
module _ (f : ℕ → Bool) (n : ℕ) where
  each_in : (t : List ℕ) → length t ≡ n → every (λ i. f (byte t i)) n ≡ true → (x : ℕ) → x ∈ t → f x ≡ true
  each_in t l h x m =
      let a = place x t m in
      let here : length a.above < n = omega (arith, l, ap length a.eq ∙ length-append a.above (x ∷ a.below)) in
      ap f (sym (ap (λ s. byte s (length a.above)) a.eq ∙ get_or_at a.above x a.below 0 (length a.above) refl)) ∙ every_at (λ i. f (byte t i)) n (length a.above) h here

  bytes-from : (t t' : List ℕ) (v : ℕ) → length t ≡ n → length t' ≡ n → ((x : ℕ) → x ∈ t' → (x ≡ v) ⊎ (x ∈ t)) → f v ≡ true → every (λ i. f (byte t i)) n ≡ true → every (λ i. f (byte t' i)) n ≡ true
  bytes-from t t' v l l' from passes h =
      every_all (λ i. f (byte t' i)) n (λ i il. either (from (byte t' i) (get_or_in t' i 0 (omega arith))) (λ e. rw e passes) (λ m. each_in t l h (byte t' i) m))

  byte-set : (t : List ℕ) (i v : ℕ) → length t ≡ n → f v ≡ true → every (λ i. f (byte t i)) n ≡ true → every (λ j. f (byte (set t i v) j)) n ≡ true
  byte-set t i v l = bytes-from t (set t i v) v l (length-set t i v ∙ l) (λ x. set_in x t i v)

word_set : (limit n : ℕ) (t : List ℕ) (r v : ℕ) → 2 * r + 1 < length t → v < limit → words_below n limit t ≡ true → words_below n limit (put_word t r v) ≡ true
word_set limit n t r v fits low h =
    every_all (λ i. ltb (word (put_word t r v) i) limit) n
    (λ i l. rw (word_put t r v i fits) (changed_at (λ w. ltb w limit ≡ true) (word t) r v i (every_at (λ j. ltb (word t j) limit) n i h l) (lt-ltb v limit low)))

counters_all : (t : List ℕ) → word t 0 < 4097 → 0 < byte t 2 → byte t 2 < 65 → 0 < byte t 3 → byte t 3 < 65 → counters_in t ≡ true
counters_all t a b c d e = rw (lt-ltb (word t 0) 4097 a, lt-ltb 0 (byte t 2) b, lt-ltb (byte t 2) 65 c, lt-ltb 0 (byte t 3) d, lt-ltb (byte t 3) 65 e)

-- one of the counters written
module _ (t : List ℕ) (l : length t ≡ 4) (h : counters_in t ≡ true) where
  taken-set : (u : ℕ) → u < 4097 → counters_in (put_word t 0 u) ≡ true
  taken-set u low =
      let c = counters-in t h in
      let out = byte_put_other t 0 u 2 (omega arith) (omega arith) in
      let given = byte_put_other t 0 u 3 (omega arith) (omega arith) in
      counters_all (put_word t 0 u) (rw (word_put t 0 u 0 (omega arith)) low) (rw out c.1) (rw out c.2) (rw given c.3) (rw given c.4)

  out-set : (n : ℕ) → 0 < n → n < 65 → counters_in (set t 2 n) ≡ true
  out-set n some low =
      let c = counters-in t h in
      let out = get_or-set_same t 2 n 0 (omega arith) in
      let given = get_or-set_other t 2 3 n 0 (omega arith) in
      counters_all (set t 2 n) (rw (word-set-other t 0 n 2 (omega arith) (omega arith)) c.0) (rw out some) (rw out low) (rw given c.3) (rw given c.4)

  given-set : (n : ℕ) → 0 < n → n < 65 → counters_in (set t 3 n) ≡ true
  given-set n some low =
      let c = counters-in t h in
      let out = get_or-set_other t 3 2 n 0 (omega arith) in
      let given = get_or-set_same t 3 n 0 (omega arith) in
      counters_all (set t 3 n) (rw (word-set-other t 0 n 3 (omega arith) (omega arith)) c.0) (rw out c.1) (rw out c.2) (rw given some) (rw given low)

-- 11 keeps the main revision from being a joinee
pub joinee_some : (k : Cells) (a b : ℕ) → joinable k a b ≡ true → 0 < b
joinee_some k a b h =
    let both = and-true (not (eqb b main) && not (eqb a b)) (k.seen a b) h in
    let d = eqb-false b main (not-true (eqb b main) (and-true (not (eqb b main)) (not (eqb a b)) both.0).0) in
    omega arith

-- the steps, part by part as they write
module _ {p : Parts} (s : Sized p) (h : Ranged p) where
  abbrev k : Cells
  k = decode p

  R : Ranges (decode p)
  R = ranged_ranges p h

  -- a byte, and a word, of a part
  byte-ranged : (i n : ℕ) (f : ℕ → Bool) → size i ≡ n → ((t : List ℕ) → part_in i t ≡ every (λ j. f (byte t j)) n) → (j v : ℕ) → f v ≡ true → part_in i (set (p i) j v) ≡ true
  byte-ranged i n f z is j v passes = is (set (p i) j v) ∙ byte-set f n (p i) j v (s.of i ∙ z) passes (sym (is (p i)) ∙ h.of i)

  word-ranged : (i n limit : ℕ) → size i ≡ 2 * n → ((t : List ℕ) → part_in i t ≡ words_below n limit t) → (r v : ℕ) → r < n → v < limit → part_in i (put_word (p i) r v) ≡ true
  word-ranged i n limit z is r v rl low = let l = s.of i in is (put_word (p i) r v) ∙ word_set limit n (p i) r v (omega arith) low (sym (is (p i)) ∙ h.of i)

  settled-ranged : (v : ℕ) → v ≤ updates → part_in settled_part (put_word (p settled_part) 0 v) ≡ true
  unfolding part_in size
  settled-ranged v few = word-ranged settled_part 1 4097 refl (λ t. refl) 0 v (omega arith) (omega arith)

  pub close-ranged : (c : ℕ) → Ranged (close_parts p c)
  unfolding part_in size
  close-ranged c =
      let a = ranged_with h opened_part _ (byte-ranged opened_part clients (λ b. ltb b 65) refl (λ t. refl) c closed refl) in
      ranged_with a settled_part _ (settled-ranged (close_settled k c) (cond_all (λ n. n ≤ updates) (eqb (k.opened c) main) (k.count main) k.settled (R.count main (omega arith)) R.settled))

  pub query-ranged : (c r : ℕ) → r < revisions → Ranged (query_parts p c r)
  unfolding part_in size
  query-ranged c r l =
      let a = ranged_with h caught_part (put_row 8 (p caught_part) c (λ x. eqb x r)) refl in
      ranged_with a opened_part _ (byte-ranged opened_part clients (λ b. ltb b 65) refl (λ t. refl) c r (lt-ltb r 65 (omega arith)))

  pub append-ranged : (r : ℕ) → r < revisions → k.updates < updates → Ranged (append_parts p r)
  unfolding part_in size
  append-ranged r rl ul =
      let u = k.updates in
      let first = cond_all (λ n. n < updates) (eqb (k.count r) 0) u (k.first r) ul (R.first r rl) in
      let few = counted_few (suc (k.count r)) in
      let a = ranged_with (ranged_with h low_part (set (p low_part) u (k.last r % 256)) refl) high_part (put_half (p high_part) u (k.last r / 256)) refl in
      let b = ranged_with a last_part _ (word-ranged last_part revisions 4096 refl (λ t. refl) r u rl ul) in
      let c = ranged_with b first_part _ (word-ranged first_part revisions 4096 refl (λ t. refl) r _ rl first) in
      let d = ranged_with c count_part _ (word-ranged count_part revisions 4097 refl (λ t. refl) r (counted (suc (k.count r))) rl (omega arith)) in
      ranged_with d counters_part _ (taken-set (p counters_part) (s.of counters_part) (h.of counters_part) (suc u) (omega arith))

  pub inherit-ranged : (q c : ℕ) → q < revisions → c < revisions → Ranged (inherit_parts p q c)
  unfolding part_in size
  inherit-ranged q c ql cl =
      let main-few = R.count main (omega arith) in
      let few = R.base q ql in
      let base = cond_all (λ n. n < 4097) (eqb q main) (k.count main) (k.base q) (omega arith) (omega arith) in
      let a = ranged_with h rows_part (cond (eqb q main) (p rows_part) (put_row_of (p rows_part) c (fork_row k q))) refl in
      let b = ranged_with a used_part _ (byte-ranged used_part revisions (λ b. ltb b 2) refl (λ t. refl) c (cond (eqb q main) 0 1) (cond_all (λ n. ltb n 2 ≡ true) (eqb q main) 0 1 refl refl)) in
      let d = ranged_with b base_part _ (word-ranged base_part revisions 4097 refl (λ t. refl) c _ cl base) in
      ranged_with d count_part _ (word-ranged count_part revisions 4097 refl (λ t. refl) c 0 cl (omega arith))

  fork-layout : (q c : ℕ) → c < revisions → part_in layout_part (take revisions (insert_before q c (p layout_part))) ≡ true
  unfolding part_in size
  fork-layout q c l =
      let t = p layout_part in
      bytes-from (λ b. ltb b 64) revisions t (take revisions (insert_before q c t)) c (s.of layout_part) ((fork_sized s q c l).of layout_part)
      (λ x i. insert_back q c x t (take_in x revisions (insert_before q c t) i)) (lt-ltb c 64 l) (h.of layout_part)

  fork-queue : part_in queue_part (fork_queue k) ≡ true
  unfolding part_in size
  fork-queue =
      let t = p queue_part in
      let l = s.of queue_part in
      cond_all (λ l. part_in queue_part l ≡ true) (ltb k.given revisions) t (rest_of t ++ (1 ∷ [])) (h.of queue_part)
      (bytes-from (λ b. ltb 0 b && ltb b 64) revisions t (rest_of t ++ (1 ∷ [])) 1 l (shift_length t (omega arith) ∙ l)
      (λ x i. either (Memᴰ.append_cases (rest_of t) i) (λ o. inr (rest_in x t o)) (λ o. inl (Memᴰ.eq_of_singleton o))) refl (h.of queue_part))

  fork-given : (0 < fork_given k) × (fork_given k < 65)
  fork-given =
      let some = R.some_given in
      let most = R.most_given in
      cases (ltb k.given revisions) (λ e. let l = ltb-true k.given revisions e in rw e (omega arith, omega arith)) (λ e. rw e (some, omega arith))

  pub branch-ranged : (q c : ℕ) → q < revisions → c < revisions → k.out < revisions → Ranged (branch_parts p q c)
  unfolding part_in size
  branch-ranged q c ql cl room =
      let t = p counters_part in
      let l = s.of counters_part in
      let out = out-set t l (h.of counters_part) (suc k.out) (omega arith) (omega arith) in
      let a = ranged_with (ranged_with (inherit-ranged q c ql cl) seen_part (pack revisions (fork_pool k.seen q c)) refl) caught_part (pack clients (fork_caught k.caught q c)) refl in
      let b = ranged_with a state_part _ (byte-ranged state_part revisions (λ b. ltb b 4) refl (λ t. refl) c state_out refl) in
      let d = ranged_with (ranged_with b layout_part _ (fork-layout q c cl)) queue_part _ fork-queue in
      ranged_with d counters_part _ (given-set (set t 2 (suc k.out)) (length-set t 2 (suc k.out) ∙ l) out (fork_given k) fork-given.0 fork-given.1)

  pub fork-ranged : (q c : ℕ) → q < revisions → c < revisions → k.out < revisions → Ranged (fork_parts p q c)
  unfolding part_in size
  fork-ranged q c ql cl room = ranged_with (branch-ranged q c ql cl room) started_part (put_word (p started_part) 0 (fork_started k)) refl

  pub mark-ranged : (q c : ℕ) (n : Name) → q < revisions → c < revisions → k.out < revisions → Ranged (mark_parts p q c n)
  unfolding part_in size
  mark-ranged q c n ql cl room =
      let a = ranged_with (branch-ranged q c ql cl room) state_part _ (byte-ranged state_part revisions (λ b. ltb b 4) refl (λ t. refl) c state_marked refl) in
      ranged_with a names_part (put_name (p names_part) c n) refl

  pub splice-ranged : (a b : ℕ) → a < revisions → b < revisions → Ranged (splice_parts p a b)
  unfolding part_in size
  splice-ranged a b al bl =
      let first = cond_all (λ n. n < updates) (eqb (k.count a) 0) (k.first b) (k.first a) (R.first b bl) (R.first a al) in
      let low = ranged_with h low_part (spliced k b (p low_part) (set (p low_part) (k.first b) (k.last a % 256))) refl in
      let high = ranged_with low high_part (spliced k b (p high_part) (put_half (p high_part) (k.first b) (k.last a / 256))) refl in
      let last = ranged_with high last_part _ (either-ranged last_part _ (word-ranged last_part revisions 4096 refl (λ t. refl) a (k.last b) al (R.last b bl))) in
      ranged_with last first_part _ (either-ranged first_part _ (word-ranged first_part revisions 4096 refl (λ t. refl) a _ al first))
    where
      either-ranged : (i : ℕ) (t : List ℕ) → part_in i t ≡ true → part_in i (spliced k b (p i) t) ≡ true
      either-ranged i t e = cond_all (λ l. part_in i l ≡ true) (eqb (k.count b) 0) (p i) t (h.of i) e

  merge-ranged : (a b : ℕ) → a < revisions → b < revisions → Ranged (merge_parts p a b)
  unfolding part_in size
  merge-ranged a b al bl =
      let few = counted_few (k.count a + k.count b) in
      let c = ranged_with (splice-ranged a b al bl) count_part _ (word-ranged count_part revisions 4097 refl (λ t. refl) a (join_count k a b) al (omega arith)) in
      let d = ranged_with c settled_part _ (settled-ranged (join_settled k a b) (cond_all (λ n. n ≤ updates) (eqb a main) (join_count k a b) k.settled few R.settled)) in
      ranged_with (ranged_with d seen_part (put_row 8 (p seen_part) a (join_pool k.seen a b a)) refl) caught_part (pack clients (join_caught k.caught a b)) refl

  drop-layout : (r : ℕ) → part_in layout_part (take revisions (remove r (p layout_part) ++ (0 ∷ []))) ≡ true
  unfolding part_in size
  drop-layout r =
      let t = p layout_part in
      let rest = remove r t ++ (0 ∷ []) in
      bytes-from (λ b. ltb b 64) revisions t (take revisions rest) 0 (s.of layout_part) ((drop_sized s r).of layout_part)
      (λ x i. either (Memᴰ.append_cases (remove r t) (take_in x revisions rest i)) (λ o. inr (remove_back r x t o)) (λ o. inl (Memᴰ.eq_of_singleton o)))
      refl (h.of layout_part)

  pub drop-ranged : (r : ℕ) → 0 < r → r < revisions → Ranged (drop_parts p r)
  unfolding part_in size
  drop-ranged r pos rl =
      let most = fewer_most k.out revisions R.most_out (omega arith) in
      let a = ranged_with h state_part _ (byte-ranged state_part revisions (λ b. ltb b 4) refl (λ t. refl) r state_joined refl) in
      let b = ranged_with a layout_part _ (drop-layout r) in
      let queued = byte-ranged queue_part revisions (λ b. ltb 0 b && ltb b 64) refl (λ t. refl) (k.given - k.out) r (rw (lt-ltb 0 r pos) (lt-ltb r 64 rl)) in
      let c = ranged_with b queue_part _ queued in
      ranged_with c counters_part _ (out-set (p counters_part) (s.of counters_part) (h.of counters_part) (one_fewer k.out) (fewer_some k.out) (omega arith))

pub join_ranged : {p : Parts} → Sized p → Ranged p → (a b : ℕ) → a < revisions → b < revisions → 0 < b → Ranged (join_parts p a b)
join_ranged s h a b al bl pos = drop-ranged (merge_sized s a b al) (merge-ranged s h a b al bl) b pos bl

pub update_ranged : {p : Parts} → Sized p → Ranged p → (c r : ℕ) → r < revisions → (decode p).updates < updates → Ranged (update_parts p c r)
update_ranged s h c r rl ul = query-ranged (append_sized s r) (append-ranged s h r rl ul) c r rl

pub fresh_ranged : (single : Bool) → Ranged (fresh_parts single)
unfolding every size signature word
fresh_ranged true = parts_ranged (fresh_parts true) refl
fresh_ranged false = parts_ranged (fresh_parts false) refl

-- the same on the bytes
pub record Lower (d : List ℕ) : Type 0 where
  pub long : length d ≡ lower_bytes
  pub ranged : in_range d ≡ true

lower : (p : Parts) → Sized p → Ranged p → Lower (glue p)
unfolding in_range
lower p s h = record { long = glue-length p s; ranged = ap parts_in (split-glue p s) ∙ ranged_in p h }

pub fresh_stays : (single : Bool) → Lower (fresh_bytes single)
unfolding fresh_bytes
fresh_stays single = lower (fresh_parts single) (fresh_sized single) (fresh_ranged single)

module _ (d : List ℕ) (L : Lower d) where
  sized : Sized (split d)
  sized = split_sized d L.long

  ranged : Ranged (split d)
  unfolding in_range
  ranged = parts_ranged (split d) L.ranged

  pub query-stays : (c r : ℕ) → c < clients → r < revisions → Lower (query_bytes d c r)
  unfolding query_bytes
  query-stays c r cl rl = lower (query_parts (split d) c r) (query_sized sized c r cl) (query-ranged sized ranged c r rl)

  pub update-stays : (c r : ℕ) → c < clients → r < revisions → (cells d).updates < updates → Lower (update_bytes d c r)
  unfolding update_bytes cells
  update-stays c r cl rl ul = lower (update_parts (split d) c r) (update_sized sized c r cl) (update_ranged sized ranged c r rl ul)

  pub close-stays : (c : ℕ) → Lower (close_bytes d c)
  unfolding close_bytes
  close-stays c = lower (close_parts (split d) c) (close_sized sized c) (close-ranged sized ranged c)

  pub fork-stays : (q c : ℕ) → q < revisions → c < revisions → (cells d).out < revisions → Lower (fork_bytes d q c)
  unfolding fork_bytes cells
  fork-stays q c ql cl room = lower (fork_parts (split d) q c) (fork_sized sized q c cl) (fork-ranged sized ranged q c ql cl room)

  pub mark-stays : (q c : ℕ) (n : Name) → q < revisions → c < revisions → (cells d).out < revisions → Lower (mark_bytes d q c n)
  unfolding mark_bytes cells
  mark-stays q c n ql cl room = lower (mark_parts (split d) q c n) (mark_sized sized q c n cl) (mark-ranged sized ranged q c n ql cl room)

  -- a merge is no step by itself: for the code, which drops the joinee behind it
  pub merge-stays : (a b : ℕ) → a < revisions → b < revisions → Lower (glue (merge_parts (split d) a b))
  merge-stays a b al bl = lower (merge_parts (split d) a b) (merge_sized sized a b al) (merge-ranged sized ranged a b al bl)

  pub drop-stays : (r : ℕ) → 0 < r → r < revisions → Lower (drop_bytes d r)
  unfolding drop_bytes
  drop-stays r pos rl = lower (drop_parts (split d) r) (drop_sized sized r) (drop-ranged sized ranged r pos rl)

  pub join-stays : (a b : ℕ) → a < revisions → b < revisions → 0 < b → Lower (join_bytes d a b)
  unfolding join_bytes
  join-stays a b al bl pos = lower (join_parts (split d) a b) (join_sized sized a b al) (join_ranged sized ranged a b al bl pos)
