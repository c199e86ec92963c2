-- Every call leaves a table a table, and 1 says that there was none.
use Prim.Native.Nat.{ℕ, ◌<◌}
use mathlib.Core.Bool.{true, false, not, true≢false}
use mathlib.Core.Path.{◌≡◌, refl, sym, ◌∙◌, ap}
use mathlib.Core.Logic.{◌↔◌}
use mathlib.Core.List.{List, [], ◌∷◌, ◌++◌}
use native.Mathlib.Omega.{arith}
use lib.Dec.{eqb, ltb}
use lib.ListN.{length, length-replicate}
use borrow.Author.Tests.{eq-eqb, ltb-true, not-false}
use Rattle.lists.proofs.Cases.{and-true, cases}
use Rattle.lists.specs.Names.{Name}
use Rattle.bundles.specs.declared.entry.Entry.{Entry}
use Rattle.updates.specs.Kinds.{kind_of}
use Rattle.boards.specs.Board.{board_bytes}
use Rattle.desk.specs.Calls.{Call, Update, Query, Yield, Fork, Join, Sync, Mark, Drop, Bundle, Looks, Show, Fill, Preview, Verify, Bill, Batch, Records, Entries, entries_of}
use Rattle.desk.specs.Checks.{checks, settle}
use Rattle.desk.proofs.Checks.{Ends, Passed, ◌also◌, ends, no, no_table_first, yes}
use Rattle.cells.specs.Sizes.{clients, revisions, updates}
use Rattle.cells.specs.Cells.{next_number}
use Rattle.cells.specs.Checks.{bearer, given_out, is_client}
use Rattle.cells.specs.Steps.{close_bytes, drop_bytes, fork_bytes, join_bytes, mark_bytes, query_bytes, update_bytes}
use Rattle.cells.proofs.Bearer.{bearer-number}
use Rattle.cells.proofs.Range.{next_ranged, ranges}
use Rattle.cells.proofs.Stays.{Lower, close-stays, drop-stays, fork-stays, fresh_stays, join-stays, mark-stays, query-stays, update-stays}
use Rattle.entries.specs.Sizes as Upper
use Rattle.entries.specs.Stored.{entry}
use Rattle.entries.specs.Entries.{wrote}
use Rattle.entries.proofs.Entries.{wrote-length}
use Rattle.table.specs.Halves.{low, high, cells_of, is_table}
use Rattle.table.specs.Answers.{after_taken, refused}
use Rattle.table.specs.Out.{Out, table_bytes}
use Rattle.table.specs.Calls.{as_one, asked, batch_out, bill_out, bundle_out, drop_out, entries_out, fill_out, fork_out, fresh_out, join_end, join_out, list_out, mark_out, no_bill, no_fill, no_prospect, preview_out, query_out, sent_out, bundled, sync_out, update_out, verdict, verify_out, yield_out}
use Rattle.table.proofs.Halves.{lower_of, table_of, upper_length}
use Rattle.table.proofs.Syncs.{joins}
use Rattle.table.specs.Out.{Answer}
use Rattle.table.specs.Out.{Level}
use Rattle.table.specs.Out.{Prospect}
use Rattle.table.specs.Served.{served}
use Rattle.consistency.specs.Stays.{FreshMakesTable, LeavesTable, StaysTable}

-- 1 is given exactly if there is no table, where the end does not give it
module _ {A : Type 0} (code_of : A → ℕ) (refusal : ℕ → A) (own : (k : ℕ) → code_of (refusal k) ≡ k) (t : List ℕ) (c : Call ℕ) (end : A) where
  one-exactly : (is_table t ≡ true → Passed (checks (asked t) c) → code_of end ≡ 1 → ⊥) → (code_of (settle (checks (asked t) c) refusal end) ≡ 1) ↔ (is_table t ≡ false)
  one-exactly f =
      (λ e. cases (is_table t) (λ h. absurd (by h (ends refusal end (asked t) (rw h) c) e)) (λ h. h), λ h. ap code_of (no_table_first refusal end (asked t) (rw h) c) ∙ own 1)
    where
      by : is_table t ≡ true → {a : A} → Ends (checks (asked t) c) refusal end a → code_of a ≡ 1 → ⊥
      by h (no k l) e = omega (arith, own k, l, e)
      by h (yes P) e = f h P e

out_one : (t lent : List ℕ) (c : Call ℕ) (end : Out) → (is_table t ≡ true → Passed (checks (asked t) c) → end.code ≡ 1 → ⊥) → ((settle (checks (asked t) c) (refused lent) end).code ≡ 1) ↔ (is_table t ≡ false)
out_one t lent = one-exactly (λ (o : Out). o.code) (refused lent) (λ k. refl) t

module _ (t : List ℕ) (h : is_table t ≡ true) where
  out_stays : (c : Call ℕ) (end : Out) → (Passed (checks (asked t) c) → is_table end.lent ≡ true) → is_table (settle (checks (asked t) c) (refused t) end).lent ≡ true
  out_stays c end f = by (ends (refused t) end (asked t) (rw h) c)
    where
      by : {o : Out} → Ends (checks (asked t) c) (refused t) end o → is_table o.lent ≡ true
      by (no k l) = h
      by (yes P) = f P

  L : Lower (low t)
  L = (lower_of t h).1

  upper : length (high t) ≡ Upper.entry_bytes
  upper = upper_length t (lower_of t h).0

  -- what the checks of a client and of a revision leave
  client : (c : ℕ) → not (is_client c) ≡ false → c < clients
  client c e = ltb-true c clients (not-false (is_client c) e)

  revision : (n : ℕ) → not (given_out (cells_of t) n) ≡ false → n < revisions
  revision n e = ltb-true n revisions (and-true (ltb n revisions) _ (not-false (given_out (cells_of t) n) e)).0

  update-end : (c n k bib v : ℕ) → Passed (checks (asked t) (Update c n k bib v)) → is_table (update_bytes (low t) c n ++ wrote (high t) (cells_of t).updates (entry (kind_of k) c bib v)) ≡ true
  update-end c n k bib v (e1 also e2 also e3 also e4 also e16 also e5 also e6 also e7 also e8 also e9 also P) =
      let room = ltb-true (cells_of t).updates updates (not-false _ e9) in
      table_of (update_bytes (low t) c n) _ (update-stays (low t) L c n (client c e2) (revision n e3) room) (wrote-length (high t) (cells_of t).updates (entry (kind_of k) c bib v) upper room)

  query-end : (c n bib : ℕ) → Passed (checks (asked t) (Query c n bib)) → is_table (query_bytes (low t) c n ++ high t) ≡ true
  query-end c n bib (e1 also e2 also e3 also P) = table_of (query_bytes (low t) c n) (high t) (query-stays (low t) L c n (client c e2) (revision n e3)) upper

  low-next : next_number (cells_of t) < revisions
  low-next = (next_ranged (cells_of t) (ranges (low t) L.ranged)).1

  fork-end : (n : ℕ) → Passed (checks (asked t) (Fork n)) → is_table (fork_bytes (low t) n (next_number (cells_of t)) ++ high t) ≡ true
  fork-end n (e1 also e3 also e4 also e15 also e7 also e10 also P) =
      let next = next_number (cells_of t) in
      let room = ltb-true (cells_of t).out revisions (not-false _ e10) in
      table_of (fork_bytes (low t) n next) (high t) (fork-stays (low t) L n next (revision n e3) low-next room) upper

  mark-end : (n : ℕ) (name : Name) → Passed (checks (asked t) (Mark n name)) → is_table (mark_bytes (low t) n (next_number (cells_of t)) name ++ high t) ≡ true
  mark-end n name (e1 also e3 also e4 also e15 also e7 also e10 also P) =
      let next = next_number (cells_of t) in
      let room = ltb-true (cells_of t).out revisions (not-false _ e10) in
      table_of (mark_bytes (low t) n next name) (high t) (mark-stays (low t) L n next name (revision n e3) low-next room) upper

  drop-end : (name : Name) → Passed (checks (asked t) (Drop name)) → is_table (drop_bytes (low t) (bearer (cells_of t) name) ++ high t) ≡ true
  drop-end name (e1 also e18 also P) =
      let found = bearer-number (cells_of t) name e18 in
      table_of (drop_bytes (low t) (bearer (cells_of t) name)) (high t) (drop-stays (low t) L (bearer (cells_of t) name) found.0 found.1) upper

  join-end : (n m room : ℕ) → Passed (checks (asked t) (Join n m room)) → is_table (join_bytes (low t) n m ++ high t) ≡ true
  join-end n m room P = let J = joins t n m room P in table_of (join_bytes (low t) n m) (high t) (join-stays (low t) L n m J.joiner J.joinee J.some) upper

  yield-end : (c : ℕ) → is_table (close_bytes (low t) c ++ high t) ≡ true
  yield-end c = table_of (close_bytes (low t) c) (high t) (close-stays (low t) L c) upper

-- an update and a yield; and so the calls of a bundle, each of which leaves a table to the next
update-leaves : (t : List ℕ) (c n k bib v : ℕ) → LeavesTable t (Update c n k bib v)
unfolding update_out
update-leaves t c n k bib v = record { stays = λ h. out_stays t h (Update c n k bib v) _ (update-end t h c n k bib v); one = out_one t t (Update c n k bib v) _ (λ h P e. omega arith) }

yield-leaves : (t : List ℕ) (c room : ℕ) → (is_table t ≡ true → is_table (yield_out t c room).lent ≡ true) × (((yield_out t c room).code ≡ 1) ↔ (is_table t ≡ false))
unfolding yield_out
yield-leaves t c room = (λ h. out_stays t h (Yield c room) _ (λ P. yield-end t h c), out_one t t (Yield c room) _ (λ h P e. omega arith))

abbrev Kept : Out → Type 0
Kept o = (is_table o.lent ≡ true) × (o.code ≡ 1 → ⊥)

kept : (t : List ℕ) → is_table t ≡ true → (q : Call (List ℕ)) → LeavesTable t q → (is_table (served t q).table ≡ true) × ((served t q).reply.code ≡ 1 → ⊥)
kept t h q K = (K.stays h, λ e. true≢false (sym h ∙ K.one.0 e))

sent-kept : (es : List Entry) (t : List ℕ) → is_table t ≡ true → (c n : ℕ) → Kept (sent_out t c n es)
unfolding sent_out
sent-kept [] t h c n = let K = yield-leaves t c board_bytes in (K.0 h, λ e. true≢false (sym h ∙ K.1.0 e))
sent-kept (e ∷ es) t h c n = goes_on (update_out t c n e.kind e.bib e.v) (kept t h _ (update-leaves t c n e.kind e.bib e.v)) (λ i. sent-kept es _ i c n)
  where
    goes_on : (o : Out) → Kept o → (is_table o.lent ≡ true → Kept (sent_out o.lent c n es)) → Kept (after_taken o (λ d. sent_out d c n es))
    goes_on o K f = cases (eqb o.code 0) (λ q. rw q (f K.0)) (λ q. rw q K)

bundled-kept : (t : List ℕ) → is_table t ≡ true → (c n : ℕ) (es : List Entry) → Kept (bundled t (sent_out t c n es))
bundled-kept t h c n es = by (sent_out t c n es) (sent-kept es t h c n)
  where
    by : (o : Out) → Kept o → Kept (bundled t o)
    by o K = cases (eqb o.code 0) (λ q. rw q (K.0, λ e. omega arith)) (λ q. rw q (h, K.1))

batch_stays : (t : List ℕ) → is_table t ≡ true → (c n : ℕ) (batch : Batch) (room : ℕ) → is_table (batch_out t c n batch room).lent ≡ true
batch_stays t h c n batch room = out_stays t h (Bundle c n batch room) _ (λ P. (bundled-kept t h c n (entries_of batch)).0)

batch_one : (t : List ℕ) (c n : ℕ) (batch : Batch) (room : ℕ) → ((batch_out t c n batch room).code ≡ 1) ↔ (is_table t ≡ false)
batch_one t c n batch room = out_one t t (Bundle c n batch room) _ (λ h P. (bundled-kept t h c n (entries_of batch)).1)

-- a sync's join leaves a table to its fork
fork_leaves : (t : List ℕ) (n : ℕ) → LeavesTable t (Fork n)
unfolding fork_out
fork_leaves t n = record { stays = λ h. out_stays t h (Fork n) _ (fork-end t h n); one = out_one t t (Fork n) _ (λ h P e. omega arith) }

sync-kept : (t : List ℕ) → is_table t ≡ true → (m room : ℕ) → Passed (checks (asked t) (Sync m room)) → Kept (as_one t (fork_out (join_end t 0 m).lent 0))
sync-kept t h m room P = by _ (kept _ (join-end t h 0 m room P) (Fork 0) (fork_leaves _ 0))
  where
    by : (o : Out) → Kept o → Kept (as_one t o)
    by o K = cases (eqb o.code 0) (λ q. rw q K) (λ q. rw q (h, K.1))

pub stays_table : StaysTable
unfolding query_out join_out sync_out mark_out drop_out list_out fill_out bundle_out entries_out preview_out verify_out bill_out
stays_table t (Update c n k bib v) = update-leaves t c n k bib v
stays_table t (Query c n bib) = record { stays = λ h. out_stays t h (Query c n bib) _ (query-end t h c n bib); one = out_one t t (Query c n bib) _ (λ h P e. omega arith) }
stays_table t (Yield c board) = let K = yield-leaves t c (length board) in record { stays = K.0; one = K.1 }
stays_table t (Fork n) = fork_leaves t n
stays_table t (Join n m board) =
    let room = length board in
    record { stays = λ h. out_stays t h (Join n m room) _ (join-end t h n m room); one = out_one t t (Join n m room) _ (λ h P e. omega arith) }
stays_table t (Sync m board) =
    let room = length board in
    record { stays = λ h. out_stays t h (Sync m room) _ (λ P. (sync-kept t h m room P).0); one = out_one t t (Sync m room) _ (λ h P. (sync-kept t h m room P).1) }
stays_table t (Mark n name) = record { stays = λ h. out_stays t h (Mark n name) _ (mark-end t h n name); one = out_one t t (Mark n name) _ (λ h P e. omega arith) }
stays_table t (Drop name) = record { stays = λ h. out_stays t h (Drop name) _ (drop-end t h name); one = out_one t t (Drop name) _ (λ h P e. omega arith) }
stays_table t (Bundle c n (Records bytes) board) = record { stays = λ h. batch_stays t h c n (Records bytes) (length board); one = batch_one t c n (Records bytes) (length board) }
stays_table t (Bundle c n (Entries es) board) = record { stays = λ h. batch_stays t h c n (Entries es) (length board); one = batch_one t c n (Entries es) (length board) }
stays_table t (Looks (Show n s)) = record { stays = λ h. h; one = out_one t s (Looks (Show n (length s))) _ (λ h P e. omega arith) }
stays_table t (Looks (Fill n)) = record { stays = λ h. h; one = one-exactly (λ (f : Level). f.code) no_fill (λ k. refl) t (Looks (Fill n)) _ (λ h P e. omega arith) }
stays_table t (Looks (Preview n m bib)) = record { stays = λ h. h; one = one-exactly (λ (f : Prospect). f.code) no_prospect (λ k. refl) t (Looks (Preview n m bib)) _ (λ h P e. omega arith) }
stays_table t (Looks (Verify file)) = record { stays = λ h. h; one = one-exactly (λ (a : Answer). a.code) (λ code. verdict code false) (λ k. refl) t (Looks (Verify file)) _ (λ h P e. omega arith) }
stays_table t (Looks (Bill member)) = record { stays = λ h. h; one = one-exactly (λ (a : Answer). a.code) no_bill (λ k. refl) t (Looks (Bill member)) _ (λ h P e. omega arith) }

pub fresh_makes_table : FreshMakesTable
unfolding fresh_out
fresh_makes_table t l single = rw (eq-eqb (length t) table_bytes l) (table_of _ _ (fresh_stays single) (length-replicate {A = ℕ} Upper.entry_bytes 0))
