-- 02, U11: at how many places a step's bytes differ from the former ones, at most, whatever the content: the sums of docs/CELLS.md, part by part.
use Prim.Native.Nat.{ℕ, zero, suc, ◌+◌, ◌*◌, ◌-◌, ◌/◌, ◌%◌, ◌<◌, ◌≤◌}
use mathlib.Core.Bool.{Bool, cond}
use mathlib.Core.Path.{◌≡◌, refl, sym, ◌∙◌, ap, subst}
use mathlib.Core.List.{List, []}
use native.Mathlib.Omega.{arith}
use lib.Dec.{eqb}
use lib.ListN.{length, set}
use Rattle.lists.specs.Differences.{differences}
use Rattle.lists.specs.Sums.{sum_below}
use Rattle.lists.proofs.Cases.{cond_all}
use Rattle.lists.proofs.Changed.{changed-other, changed_same}
use Rattle.lists.proofs.Differences.{differences-append, differences_by, differences-length, differences-replaced, differences_same, differences-set}
use Rattle.lists.proofs.Replaced.{next_row}
use Rattle.lists.proofs.Sums.{sum_both, sum-ends, sum_one}
use Rattle.cells.specs.Sizes.{lower_bytes, revisions, clients, main, state_out, state_joined}
use Rattle.cells.specs.Parts.{Parts, Sized, size, parts, in_row, glue, split, ◌⟨◌≔◌⟩}
use Rattle.cells.specs.Parts.{rows_part, low_part, high_part, seen_part, caught_part, state_part, used_part, last_part, first_part, count_part, base_part, layout_part, queue_part, counters_part, settled_part, started_part}
use Rattle.cells.specs.Words.{Bytes, put_word, put_half}
use Rattle.cells.specs.Flags.{put_row, row_bytes}
use Rattle.cells.specs.Decode.{decode}
use Rattle.cells.specs.CellSteps.{fork_started, one_fewer}
use Rattle.cells.specs.Steps.{fork_parts, splice_parts, merge_parts, drop_parts, join_parts, fork_bytes, join_bytes}
use Rattle.cells.proofs.Parts.{row_length, split_sized, glue-length, glue-split, split-glue}
use Rattle.cells.proofs.Flags.{row_bytes-length}
use Rattle.cells.proofs.Bytes.{pack_bytes, put_row_bytes, split_bytes}
use Rattle.cells.proofs.Sized.{drop_sized, fork_sized, join_sized, merge_sized}
use Rattle.cells.proofs.LightFlags.{fork-caught-light, fork-seen-light, join-caught-light}

-- at how many places the parts of a step differ from the former ones, at most. A byte that two steps write counts twice
abbrev pub merge_places : ℕ
merge_places = 34

abbrev pub drop_places : ℕ
drop_places = 67

abbrev pub join_places : ℕ
join_places = merge_places + drop_places

-- of the main revision
abbrev pub fork_places : ℕ
fork_places = 226

-- parts q differ from the parts p at n places at most
record Light (p q : Parts) (n : ℕ) : Type 0 where
  of : sum_below parts (λ i. differences (p i) (q i)) ≤ n

light_none : (p : Parts) → Light p p 0
light_none p = record { of = let z = sum-ends 0 parts (λ i. differences (p i) (p i)) (omega arith) (λ i l. differences_same (p i)) in omega arith }

light_then : {p q r : Parts} {m n : ℕ} → Light p q m → Light q r n → Light p r (m + n)
light_then {p} {q} {r} {m} {n} h g = record {
  of = sum_both parts _ (λ i. differences (p i) (q i)) (λ i. differences (q i) (r i)) m n (λ i. differences_by (p i) (q i) (r i)) h.of g.of;
}

two_sets : (t : List ℕ) (i v j w : ℕ) → differences t (set (set t i v) j w) ≤ 2
two_sets t i v j w =
    let a = differences-set t i v in
    let b = differences-set (set t i v) j w in
    let c = differences_by t (set t i v) (set (set t i v) j w) in
    omega arith

put_word_lem : (t : List ℕ) (r v : ℕ) → differences t (put_word t r v) ≤ 2
unfolding put_word
put_word_lem t r v = two_sets t (2 * r) (v % 256) (2 * r + 1) (v / 256)

put-half : (t : List ℕ) (u v : ℕ) → differences t (put_half t u v) ≤ 1
unfolding put_half
put-half t u v = differences-set t (u / 2) _

put-row : (t : List ℕ) (n a : ℕ) (f : ℕ → Bool) → length t ≡ 8 * n → a < n → differences t (put_row 8 t a f) ≤ 8
unfolding put_row
put-row t n a f l h = let m = next_row 8 a n h in differences-replaced t (row_bytes 8 f) (8 * a) 8 (omega arith) (row_bytes-length 8 f)

-- one more part written: by any law, at a byte, at a word, only where a test fails, whole
module _ {p q : Parts} {n : ℕ} (h : Light p q n) (i : ℕ) where
  light-with : (l : List ℕ) (m : ℕ) → differences (q i) l ≤ m → Light p (q ⟨ i ≔ l ⟩) (n + m)
  light-with l m d = light_then h (record {
    of =
        let new = q ⟨ i ≔ l ⟩ in
        let s = sum_one parts i (λ j. differences (q j) (new j)) (λ j o. ap (differences (q j)) (changed-other q i l j o) ∙ differences_same (q j)) in
        let e : differences (q i) (new i) ≡ differences (q i) l = ap (differences (q i)) (changed_same q i l) in
        omega arith;
  })

  byte-light : (r v : ℕ) → Light p (q ⟨ i ≔ set (q i) r v ⟩) (n + 1)
  byte-light r v = light-with (set (q i) r v) 1 (differences-set (q i) r v)

  word-light : (r v : ℕ) → Light p (q ⟨ i ≔ put_word (q i) r v ⟩) (n + 2)
  word-light r v = light-with (put_word (q i) r v) 2 (put_word_lem (q i) r v)

  unless-light : (t : Bool) (l : List ℕ) (m : ℕ) → differences (q i) l ≤ m → Light p (q ⟨ i ≔ cond t (q i) l ⟩) (n + m)
  unless-light t l m d =
      light-with (cond t (q i) l) m (cond_all (λ z. differences (q i) z ≤ m) t (q i) l (let s = differences_same (q i) in omega arith) d)

  whole-light : (l : List ℕ) (m : ℕ) → length (q i) ≡ m → length l ≡ m → Light p (q ⟨ i ≔ l ⟩) (n + m)
  whole-light l m e f = light-with l m (subst (λ k. differences (q i) l ≤ k) e (differences-length (q i) l (e ∙ sym f)))

-- docs/CELLS.md: "A fork from the main revision writes no row", and a join none either
no_row : (p : Parts) (a b : ℕ) → (join_parts p a b rows_part ≡ p rows_part) × (fork_parts p main b rows_part ≡ p rows_part)
no_row p a b = (refl, refl)

-- what is handed in, and what goes to the joiner
drop_light : {p : Parts} → Sized p → (r : ℕ) → Light p (drop_parts p r) drop_places
unfolding size
drop_light {p} h r =
    let k = decode p in
    let state = byte-light (light_none p) state_part r state_joined in
    let layout = whole-light state layout_part (drop_parts p r layout_part) revisions (h.of layout_part) ((drop_sized h r).of layout_part) in
    byte-light (byte-light layout queue_part (k.given - k.out) r) counters_part 2 (one_fewer k.out)

splice_light : (p : Parts) (a b : ℕ) → Light p (splice_parts p a b) 6
splice_light p a b =
    let k = decode p in
    let none = eqb (k.count b) 0 in
    let low = unless-light (light_none p) low_part none (set (p low_part) (k.first b) (k.last a % 256)) 1 (differences-set (p low_part) (k.first b) _) in
    let high = unless-light low high_part none (put_half (p high_part) (k.first b) (k.last a / 256)) 1 (put-half (p high_part) (k.first b) _) in
    let last = unless-light high last_part none (put_word (p last_part) a (k.last b)) 2 (put_word_lem (p last_part) a _) in
    unless-light last first_part none (put_word (p first_part) a (cond (eqb (k.count a) 0) (k.first b) (k.first a))) 2 (put_word_lem (p first_part) a _)

-- the parts of flags are bytes
record FlagBytes (p : Parts) : Type 0 where
  seen : Bytes (p seen_part)
  caught : Bytes (p caught_part)

module _ {p : Parts} (h : Sized p) (f : FlagBytes p) where
  merge-light : (a b : ℕ) → a < revisions → Light p (merge_parts p a b) merge_places
  unfolding size
  merge-light a b l =
      let q = merge_parts p a b in
      let count = word-light (splice_light p a b) count_part a _ in
      let settled = word-light count settled_part 0 _ in
      let seen = light-with settled seen_part (q seen_part) 8 (put-row (p seen_part) revisions a _ (h.of seen_part) l) in
      light-with seen caught_part (q caught_part) clients (join-caught-light clients (p caught_part) (h.of caught_part) f.caught a b)

  join-light : (a b : ℕ) → a < revisions → Light p (join_parts p a b) join_places
  join-light a b l = light_then (merge-light a b l) (drop_light (merge_sized h a b l) b)

  join-flags : (a b : ℕ) → FlagBytes (join_parts p a b)
  join-flags a b = record { seen = put_row_bytes 8 (p seen_part) a _ f.seen; caught = pack_bytes clients _ }

  fork-light : (c : ℕ) → c < revisions → Light p (fork_parts p main c) fork_places
  unfolding size
  fork-light c l =
      let k = decode p in
      let q = fork_parts p main c in
      let s = fork_sized h main c l in
      let rows = light-with (light_none p) rows_part (q rows_part) 0 (rw (no_row p main c).1 (let z = differences_same (p rows_part) in omega arith)) in
      let own = word-light (word-light (byte-light rows used_part c 0) base_part c (k.count main)) count_part c 0 in
      let seen = light-with own seen_part (q seen_part) 72 (fork-seen-light revisions (p seen_part) (h.of seen_part) f.seen main c) in
      let caught = light-with seen caught_part (q caught_part) clients (fork-caught-light clients (p caught_part) (h.of caught_part) f.caught main c) in
      let state = byte-light caught state_part c state_out in
      let layout = whole-light state layout_part (q layout_part) revisions (h.of layout_part) (s.of layout_part) in
      let queue = whole-light layout queue_part (q queue_part) revisions (h.of queue_part) (s.of queue_part) in
      let counters = light-with queue counters_part (q counters_part) 2 (two_sets (p counters_part) 2 _ 3 _) in
      word-light counters started_part 0 (fork_started k)

-- 02, U8: a join into the main revision, and then a fork of it
sync_light : {p : Parts} → Sized p → FlagBytes p → (b c : ℕ) → c < revisions → Light p (fork_parts (join_parts p main b) main c) (join_places + fork_places)
sync_light h f b c l =
    let m : main < revisions = omega arith in
    light_then (join-light h f main b m) (fork-light (join_sized h main b m) (join-flags h f main b) c l)

-- the bytes differ where the parts do
row_differs : (p q : Parts) → Sized p → Sized q → (n : ℕ) → differences (in_row p n) (in_row q n) ≡ sum_below n (λ i. differences (p i) (q i))
unfolding in_row
row_differs p q h g zero = differences_same []
row_differs p q h g (suc n) =
    let a = differences-append (in_row p n) (in_row q n) (p n) (q n) (row_length p h n ∙ sym (row_length q g n)) in
    let r = row_differs p q h g n in
    omega arith

light_glue : {p q : Parts} {n : ℕ} → Sized p → Sized q → Light p q n → differences (glue p) (glue q) ≤ n
unfolding glue
light_glue {p} {q} {n} s g h = subst (λ k. k ≤ n) (sym (row_differs p q s g parts)) h.of

-- bytes as many as d, which differ at n places at most
pub record Differs (d e : List ℕ) (n : ℕ) : Type 0 where
  pub long : length e ≡ lower_bytes
  pub most : differences d e ≤ n

-- the steps on bytes of any content
module _ (d : List ℕ) (l : length d ≡ lower_bytes) (b : Bytes d) where
  sized : Sized (split d)
  sized = split_sized d l

  flags : FlagBytes (split d)
  flags = record { seen = split_bytes d b seen_part; caught = split_bytes d b caught_part }

  light-bytes : {q : Parts} {n : ℕ} → Sized q → Light (split d) q n → Differs d (glue q) n
  light-bytes {q} {n} g h = record { long = glue-length q g; most = subst (λ z. differences z (glue q) ≤ n) (glue-split d l) (light_glue sized g h) }

  pub join-differs : (n m : ℕ) → n < revisions → Differs d (join_bytes d n m) join_places
  unfolding join_bytes
  join-differs n m h = light-bytes (join_sized sized n m h) (join-light sized flags n m h)

  pub sync-differs : (m c : ℕ) → c < revisions → Differs d (fork_bytes (join_bytes d main m) main c) (join_places + fork_places)
  unfolding fork_bytes join_bytes
  sync-differs m c h =
      let j = join_sized sized main m (omega arith) in
      rw (split-glue _ j) (light-bytes (fork_sized j main c h) (sync_light sized flags m c h))
