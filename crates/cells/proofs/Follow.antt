-- A step on the parts is the step on the cells: query, update, close, drop and join.
use Prim.Native.Nat.{ℕ, suc, ◌<◌}
use mathlib.Core.Bool.{Bool, true, false, cond, ◌&&◌, ◌||◌}
use mathlib.Core.Path.{◌≡◌, refl, ◌∙◌, ap, fun_ext}
use native.Mathlib.Omega.{arith}
use lib.Dec.{eqb, ltb}
use lib.ListN.{set}
use lib.Seq.{get_or-set_same, get_or-set_other}
use borrow.Author.Tests.{eq-eqb, eqb-true, lt-ltb}
use Rattle.lists.specs.Lists.{changed}
use Rattle.lists.proofs.Cases.{cases}
use Rattle.cells.specs.Sizes.{revisions, clients, updates, closed, state_joined}
use Rattle.cells.specs.Parts.{Parts, Sized, size, low_part, high_part, seen_part, caught_part, state_part, last_part, first_part, count_part, opened_part, counters_part, settled_part}
use Rattle.cells.specs.Words.{byte, put_word, word}
use Rattle.cells.specs.Flags.{flag_in, put_row}
use Rattle.cells.specs.Cells.{Cells}
use Rattle.cells.specs.Decode.{decode}
use Rattle.lists.specs.Pool.{join_pool}
use Rattle.cells.specs.CellSteps.{counted, one_fewer, only_caught, query_cells, update_cells, close_cells, close_settled, join_caught, join_count, join_settled, merge_cells, drop_cells, join_cells}
use Rattle.cells.specs.Steps.{query_parts, update_parts, close_parts, merge_parts, drop_parts, join_parts}
use Rattle.cells.proofs.Tables.{get_or-changed}
use Rattle.cells.proofs.Words.{word_put, byte_put_other, word-set-other, link_put}
use Rattle.cells.proofs.Flags.{flag-row, Within, flags_within, flag_pack}
use Rattle.cells.proofs.Sized.{merge_sized}

-- a test that implies a bound
pub bounded : (b : Bool) (x n : ℕ) → (b ≡ true → x < n) → (ltb x n && b) ≡ b
bounded true x n h = rw (lt-ltb x n (h refl))
bounded false x n h = cases (ltb x n) (λ e. rw e) (λ e. rw e)

module _ (p : Parts) (h : Sized p) (c r : ℕ) (cl : c < clients) (rl : r < revisions) where
  pub caught-only : (x y : ℕ) → flag_in 8 clients (put_row 8 (p caught_part) c (λ z. eqb z r)) x y ≡ only_caught (decode p).caught c r x y
  unfolding size
  caught-only x y =
      flag-row 8 clients (p caught_part) c (λ z. eqb z r) (h.of caught_part) cl x y
      ∙ cases (eqb x c) (λ e. rw e (bounded (eqb y r) y revisions (λ q. rw (eqb-true y r q) rl))) (λ e. rw e)

  pub opened-changed : (v x : ℕ) → byte (set (p opened_part) c v) x ≡ changed (decode p).opened c v x
  unfolding size
  opened-changed v x = let s = h.of opened_part in get_or-changed (p opened_part) c v 0 x (omega arith)

  pub query-follows : decode (query_parts p c r) ≡ query_cells (decode p) c r
  query-follows = λ i. record {
    state = (decode p).state;
    used = (decode p).used;
    last = (decode p).last;
    first = (decode p).first;
    count = (decode p).count;
    base = (decode p).base;
    row = (decode p).row;
    link = (decode p).link;
    seen = (decode p).seen;
    caught = fun_ext (λ x. fun_ext (caught-only x)) i;
    layout = (decode p).layout;
    out = (decode p).out;
    queue = (decode p).queue;
    opened = fun_ext (opened-changed r) i;
    updates = (decode p).updates;
    given = (decode p).given;
    name = (decode p).name;
    single = (decode p).single;
    settled = (decode p).settled;
    started = (decode p).started;
  }

  settled-put : (v : ℕ) → word (put_word (p settled_part) 0 v) 0 ≡ v
  unfolding size
  settled-put v = let s = h.of settled_part in word_put (p settled_part) 0 v 0 (omega arith)

  pub close_follows : decode (close_parts p c) ≡ close_cells (decode p) c
  close_follows = λ i. record {
    state = (decode p).state;
    used = (decode p).used;
    last = (decode p).last;
    first = (decode p).first;
    count = (decode p).count;
    base = (decode p).base;
    row = (decode p).row;
    link = (decode p).link;
    seen = (decode p).seen;
    caught = (decode p).caught;
    layout = (decode p).layout;
    out = (decode p).out;
    queue = (decode p).queue;
    opened = fun_ext (opened-changed closed) i;
    updates = (decode p).updates;
    given = (decode p).given;
    name = (decode p).name;
    single = (decode p).single;
    settled = settled-put (close_settled (decode p) c) i;
    started = (decode p).started;
  }

  module _ (ul : (decode p).updates < updates) (ll : (decode p).last r < updates) where
    abbrev u : ℕ
    u = (decode p).updates

    pub update-follows : decode (update_parts p c r) ≡ update_cells (decode p) c r
    unfolding size
    update-follows =
        let a = h.of last_part in
        let b = h.of first_part in
        let d = h.of count_part in
        let e = h.of counters_part in
        let f = h.of low_part in
        let g = h.of high_part in
        λ i. record {
          state = (decode p).state;
          used = (decode p).used;
          last = fun_ext (λ x. word_put (p last_part) r u x (omega arith)) i;
          first = fun_ext (λ x. word_put (p first_part) r (cond (eqb ((decode p).count r) 0) u ((decode p).first r)) x (omega arith)) i;
          count = fun_ext (λ x. word_put (p count_part) r (counted (suc ((decode p).count r))) x (omega arith)) i;
          base = (decode p).base;
          row = (decode p).row;
          link = fun_ext (λ x. link_put (p low_part) (p high_part) u ((decode p).last r) x (omega arith) (omega arith) ll) i;
          seen = (decode p).seen;
          caught = fun_ext (λ x. fun_ext (caught-only x)) i;
          layout = (decode p).layout;
          out = byte_put_other (p counters_part) 0 (suc u) 2 (omega arith) (omega arith) i;
          queue = (decode p).queue;
          opened = fun_ext (opened-changed r) i;
          updates = word_put (p counters_part) 0 (suc u) 0 (omega arith) i;
          given = byte_put_other (p counters_part) 0 (suc u) 3 (omega arith) (omega arith) i;
          name = (decode p).name;
          single = (decode p).single;
          settled = (decode p).settled;
          started = (decode p).started;
        }

-- a column of flags changed, inside the rows
pub within_column : (n : ℕ) (f : ℕ → ℕ → Bool) (a : ℕ) (g : ℕ → Bool) → a < 64 → Within n f → ((x : ℕ) → ltb x n ≡ false → g x ≡ false) → Within n (λ x. changed (f x) a (g x))
within_column n f a g al w wg x y e =
    cases (eqb y a)
    (λ q. rw q (wg x (cases (ltb x n) (λ z. z ∙ (rw (z, eqb-true y a q, lt-ltb a 64 al) at e)) (λ z. z))))
    (λ q. rw q (w x y e))

-- a flag outside is false
pub outside_row : (n : ℕ) (f : ℕ → ℕ → Bool) → Within n f → (x y : ℕ) → ltb x n ≡ false → f x y ≡ false
outside_row n f w x y e = w x y (rw e)

pub outside_column : (n : ℕ) (f : ℕ → ℕ → Bool) → Within n f → (x y : ℕ) → ltb y 64 ≡ false → f x y ≡ false
outside_column n f w x y e = w x y (cases (ltb x n) (λ q. rw (q, e)) (λ q. rw q))

either-within : (l x y : Bool) → (l ≡ false → x ≡ false) → (l ≡ false → y ≡ false) → (l && (x || y)) ≡ (x || y)
either-within true x y f g = refl
either-within false x y f g = rw (f refl, g refl)

module _ (p : Parts) (h : Sized p) (r : ℕ) (rl : r < revisions) where
  pub drop-follows : decode (drop_parts p r) ≡ drop_cells (decode p) r
  unfolding size
  drop-follows =
      let m = h.of state_part in
      let n = h.of counters_part in
      let out = one_fewer (decode p).out in
      λ i. record {
        state = fun_ext (λ x. get_or-changed (p state_part) r state_joined 0 x (omega arith)) i;
        used = (decode p).used;
        last = (decode p).last;
        first = (decode p).first;
        count = (decode p).count;
        base = (decode p).base;
        row = (decode p).row;
        link = (decode p).link;
        seen = (decode p).seen;
        caught = (decode p).caught;
        layout = (decode (drop_parts p r)).layout;
        out = get_or-set_same (p counters_part) 2 out 0 (omega arith) i;
        queue = (decode (drop_parts p r)).queue;
        opened = (decode p).opened;
        updates = word-set-other (p counters_part) 0 out 2 (omega arith) (omega arith) i;
        given = get_or-set_other (p counters_part) 2 3 out 0 (omega arith) i;
        name = (decode p).name;
        single = (decode p).single;
        settled = (decode p).settled;
        started = (decode p).started;
      }

module _ (p : Parts) (h : Sized p) (a b : ℕ) (al : a < revisions) (bl : b < revisions) (fl : (decode p).first b < updates) (ll : (decode p).last a < updates) where
  abbrev k : Cells
  k = decode p

  merge-seen : (x y : ℕ) → (decode (merge_parts p a b)).seen x y ≡ join_pool k.seen a b x y
  unfolding size
  merge-seen x y =
      let w = flags_within revisions (p seen_part) in
      let out = outside_column revisions k.seen w in
      flag-row 8 revisions (p seen_part) a (join_pool k.seen a b a) (h.of seen_part) al x y
      ∙ cases (eqb x a) (λ e. rw (e, eq-eqb a a refl) (either-within (ltb y 64) (k.seen a y) (k.seen b y) (out a y) (out b y))) (λ e. rw e)

  merge-caught : (x y : ℕ) → (decode (merge_parts p a b)).caught x y ≡ join_caught k.caught a b x y
  merge-caught =
      let w = flags_within clients (p caught_part) in
      flag_pack clients (join_caught k.caught a b)
      (within_column clients k.caught a _ al w (λ x e. rw (outside_row clients k.caught w x a e, outside_row clients k.caught w x b e)))

  merge-link : (x : ℕ) → (decode (merge_parts p a b)).link x ≡ (merge_cells k a b).link x
  unfolding size
  merge-link x =
      let m = h.of low_part in
      let n = h.of high_part in
      cases (eqb (k.count b) 0) (λ e. rw e) (λ e. rw e (link_put (p low_part) (p high_part) (k.first b) (k.last a) x (omega arith) (omega arith) ll))

  merge-last : (x : ℕ) → (decode (merge_parts p a b)).last x ≡ (merge_cells k a b).last x
  unfolding size
  merge-last x = let m = h.of last_part in cases (eqb (k.count b) 0) (λ e. rw e) (λ e. rw e (word_put (p last_part) a (k.last b) x (omega arith)))

  merge-first : (x : ℕ) → (decode (merge_parts p a b)).first x ≡ (merge_cells k a b).first x
  unfolding size
  merge-first x = let m = h.of first_part in cases (eqb (k.count b) 0) (λ e. rw e) (λ e. rw e (word_put (p first_part) a (cond (eqb (k.count a) 0) (k.first b) (k.first a)) x (omega arith)))

  merge-follows : decode (merge_parts p a b) ≡ merge_cells k a b
  unfolding size
  merge-follows =
      let m = h.of count_part in
      let n = h.of settled_part in
      λ i. record {
        state = (decode p).state;
        used = (decode p).used;
        last = fun_ext merge-last i;
        first = fun_ext merge-first i;
        count = fun_ext (λ x. word_put (p count_part) a (join_count k a b) x (omega arith)) i;
        base = (decode p).base;
        row = (decode p).row;
        link = fun_ext merge-link i;
        seen = fun_ext (λ x. fun_ext (merge-seen x)) i;
        caught = fun_ext (λ x. fun_ext (merge-caught x)) i;
        layout = (decode p).layout;
        out = (decode p).out;
        queue = (decode p).queue;
        opened = (decode p).opened;
        updates = (decode p).updates;
        given = (decode p).given;
        name = (decode p).name;
        single = (decode p).single;
        settled = word_put (p settled_part) 0 (join_settled k a b) 0 (omega arith) i;
        started = (decode p).started;
      }

  pub join-follows : decode (join_parts p a b) ≡ join_cells k a b
  join-follows = drop-follows (merge_parts p a b) (merge_sized h a b al) b bl ∙ ap (λ m. drop_cells m b) merge-follows
