-- A fork on the parts is the fork on the cells, and a mark is the mark.
use Prim.Native.Nat.{ℕ, zero, suc, ◌<◌}
use mathlib.Core.Bool.{Bool, false, cond, ◌&&◌, and_self_left}
use mathlib.Core.Path.{◌≡◌, refl, sym, ◌∙◌, fun_ext}
use mathlib.Core.List.{List}
use native.Mathlib.Omega.{arith}
use lib.Dec.{eqb, ltb}
use lib.ListN.{length, set, length-set}
use lib.Seq.{get_or-set_same, get_or-set_other}
use borrow.Author.Tests.{eqb-true, eqb-false, eq-eqb, ne_eqb, ltb-false}
use Rattle.lists.specs.Lists.{changed}
use Rattle.lists.specs.Names.{Name}
use Rattle.lists.proofs.Cases.{cases}
use Rattle.cells.specs.Sizes.{revisions, clients, updates, main, state_out, state_marked}
use Rattle.cells.specs.Parts.{Parts, Sized, size, rows_part, seen_part, caught_part, state_part, used_part, count_part, base_part, counters_part, names_part, started_part}
use Rattle.cells.specs.Cells.{Cells}
use Rattle.cells.specs.Decode.{decode, row_of}
use Rattle.lists.specs.Pool.{fork_pool}
use Rattle.cells.specs.CellSteps.{fork_caught, fork_row, fork_given, fork_queue, fork_started, fork_cells, mark_cells}
use Rattle.cells.specs.Steps.{put_row_of, fork_parts, mark_parts}
use Rattle.cells.proofs.Tables.{get_or-changed}
use Rattle.cells.proofs.Words.{name-put, word_put, word-set-other}
use Rattle.cells.proofs.Flags.{flag-row, Within, flags_within, flag_pack}
use Rattle.cells.proofs.Follow.{within_column, outside_row, outside_column}

same_suc : (x r : ℕ) → eqb (suc x) (suc r) ≡ eqb x r
same_suc x r =
    cases (eqb x r)
    (λ e. let q = eqb-true x r e in eq-eqb (suc x) (suc r) (omega arith) ∙ sym e)
    (λ e. ne_eqb (suc x) (suc r) (λ q. eqb-false x r e (omega arith)) ∙ sym e)

-- the row of revision r replaced
pub row_put : (t : List ℕ) (r : ℕ) (f : ℕ → Bool) → length t ≡ 32256 → r < revisions → (r ≡ 0 → ⊥) → (x u : ℕ) → row_of (put_row_of t r f) x u ≡ changed (row_of t) r (λ y. ltb y updates && f y) x u
row_put t zero f l h n x u = absurd (n refl)
row_put t (suc r) f l h n zero u = rw (ne_eqb 0 (suc r) (omega arith))
row_put t (suc r) f l h n (suc x) u =
    flag-row 512 63 t r f (omega arith) (omega arith) x u
    ∙ rw (same_suc x r) (cases (eqb x r) (λ e. rw e) (λ e. rw e))

module _ (p : Parts) (h : Sized p) (q c : ℕ) (ql : q < revisions) (cl : c < revisions) (pos : c ≡ 0 → ⊥) where
  abbrev k : Cells
  k = decode p

  fork-row : (x u : ℕ) → (decode (fork_parts p q c)).row x u ≡ (fork_cells k q c).row x u
  unfolding size
  fork-row x u =
      cases (eqb q main)
      (λ e. rw e)
      (λ e. rw e (row_put (p rows_part) c (fork_row k q) (h.of rows_part) cl pos x u ∙ cases (eqb x c) (λ w. rw w (and_self_left (ltb u updates) _)) (λ w. rw w)))

  fork-used : (x : ℕ) → (decode (fork_parts p q c)).used x ≡ (fork_cells k q c).used x
  unfolding size
  fork-used x =
      let m = h.of used_part in
      rw (get_or-changed (p used_part) c (cond (eqb q main) 0 1) 0 x (omega arith))
      (cases (eqb x c) (λ e. rw e (cases (eqb q main) (λ w. rw w) (λ w. rw w))) (λ e. rw e))

  -- c's row and column changed
  seen-within : Within revisions (fork_pool k.seen q c)
  seen-within =
      let w = flags_within revisions (p seen_part) in
      within_column revisions (changed k.seen c (k.seen q)) c (λ x. eqb x q) cl
      (λ x y e. cases (eqb x c) (λ i. rw i (outside_column revisions k.seen w q y (column x y e (eqb-true x c i)))) (λ i. rw i (w x y e)))
      (λ x e. let l = ltb-false x revisions e in ne_eqb x q (omega arith))
    where
      column : (x y : ℕ) → (ltb x revisions && ltb y 64) ≡ false → x ≡ c → ltb y 64 ≡ false
      column x y e i = cases (ltb x revisions) (λ z. rw z at e) (λ z. let l = ltb-false x revisions z in absurd (omega arith))

  caught-within : Within clients (fork_caught k.caught q c)
  caught-within =
      let w = flags_within clients (p caught_part) in
      within_column clients k.caught c (λ x. k.caught x q) cl w (λ x e. outside_row clients k.caught w x q e)

  pub fork-follows : decode (fork_parts p q c) ≡ fork_cells k q c
  unfolding size
  fork-follows =
      let m = h.of state_part in
      let n = h.of count_part in
      let o = h.of base_part in
      let r = h.of counters_part in
      let t = h.of started_part in
      let two = set (p counters_part) 2 (suc k.out) in
      λ i. record {
        state = fun_ext (λ x. get_or-changed (p state_part) c state_out 0 x (omega arith)) i;
        used = fun_ext fork-used i;
        last = k.last;
        first = k.first;
        count = fun_ext (λ x. word_put (p count_part) c 0 x (omega arith)) i;
        base = fun_ext (λ x. word_put (p base_part) c (cond (eqb q main) (k.count main) (k.base q)) x (omega arith)) i;
        row = fun_ext (λ x. fun_ext (fork-row x)) i;
        link = k.link;
        seen = fun_ext (λ x. fun_ext (flag_pack revisions (fork_pool k.seen q c) seen-within x)) i;
        caught = fun_ext (λ x. fun_ext (flag_pack clients (fork_caught k.caught q c) caught-within x)) i;
        layout = (fork_cells k q c).layout;
        out = (get_or-set_other two 3 2 (fork_given k) 0 (omega arith) ∙ get_or-set_same (p counters_part) 2 (suc k.out) 0 (omega arith)) i;
        queue = fork_queue k;
        opened = k.opened;
        updates = (word-set-other two 0 (fork_given k) 3 (omega arith) (omega arith) ∙ word-set-other (p counters_part) 0 (suc k.out) 2 (omega arith) (omega arith)) i;
        given = get_or-set_same two 3 (fork_given k) 0 (rw length-set (omega arith)) i;
        name = k.name;
        single = k.single;
        settled = k.settled;
        started = word_put (p started_part) 0 (fork_started k) 0 (omega arith) i;
      }

  -- 02, U9: a fork with a name
  pub mark-follows : (n : Name) → length n ≡ 4 → decode (mark_parts p q c n) ≡ mark_cells k q c n
  unfolding size
  mark-follows n l =
      let m = h.of state_part in
      let w = h.of names_part in
      λ i.
      let f = fork-follows i in
      record {
        state = fun_ext (λ x. get_or-changed (p state_part) c state_marked 0 x (omega arith)) i;
        used = f.used;
        last = f.last;
        first = f.first;
        count = f.count;
        base = f.base;
        row = f.row;
        link = f.link;
        seen = f.seen;
        caught = f.caught;
        layout = f.layout;
        out = f.out;
        queue = f.queue;
        opened = f.opened;
        updates = f.updates;
        given = f.given;
        name = fun_ext (λ x. name-put (p names_part) c n x (omega arith) l) i;
        single = f.single;
        settled = f.settled;
        started = k.started;
      }
