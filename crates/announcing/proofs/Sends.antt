-- The calls yield and bundle: where the checks of the table, of the bundle and of the board end them, and what a bundle's updates and yield leave.
use Prim.Native.Nat.{ℕ, suc}
use mathlib.Core.Bool.{Bool, true, false}
use mathlib.Core.Logic.{inl}
use mathlib.Core.Path.{◌≡◌, refl, sym, ◌∙◌, ap, subst}
use mathlib.Core.List.{List, [], ◌∷◌, ◌++◌}
use lib.Dec.{eqb, ltb}
use borrow.Author.Tests.{ltb-true, not-false}
use Rattle.lists.proofs.Cases.{and-true, cases}
use Rattle.boards.specs.Board.{board_bytes, is_wrong_board}
use Rattle.updates.specs.Kinds.{kind_of}
use Rattle.bundles.specs.declared.entry.Entry.{Entry}
use Rattle.bundles.specs.Packed.{held, rows}
use Rattle.bundles.specs.Records.{is_wrong}
use Rattle.bundles.proofs.First.{rows-entries}
use Rattle.desk.specs.Calls.{Records, Update}
use Rattle.desk.specs.Checks.{Check, ◌if◌, checks, settle}
use Rattle.desk.proofs.Checks as Rows
use Rattle.desk.proofs.Checks.{Passed, Settled, ◌also◌, goes, stops}
use Rattle.cells.specs.Sizes.{clients, revisions, updates}
use Rattle.cells.specs.Cells.{Settles}
use Rattle.cells.specs.Checks.{given_out, is_client}
use Rattle.cells.specs.Steps.{update_bytes}
use Rattle.cells.proofs.Decoded.{update-decoded}
use Rattle.cells.proofs.Stays.{Lower, update-stays}
use Rattle.entries.specs.Stored.{entry}
use Rattle.entries.specs.Entries.{wrote}
use Rattle.entries.proofs.Entries.{wrote-length}
use Rattle.table.specs.Halves.{cells_of, high, is_table, low}
use Rattle.table.specs.Answers.{after_taken, refused}
use Rattle.table.specs.Out.{Out}
use Rattle.table.specs.Calls.{asked, bundled, yield_out}
use Rattle.table.specs.Shared.{batch_shared, count_in, sent_shared, update_shared}
use Rattle.table.specs.Shows.{Shows}
use Rattle.table.proofs.Brings.{stays_shown, yield-shows}
use Rattle.table.proofs.Halves.{low_of, lower_of, table_of, upper_length}
use Rattle.table.proofs.Shared.{update_row}

-- where a check of the table, of the bundle or of the board ends the call
module _ (t : List ℕ) (room : ℕ) where
  pub no-yield : is_table t ≡ false → (c : ℕ) → refused t 1 ≡ yield_out t c room
  unfolding yield_out
  no-yield h c = rw h

  pub wrong-yield : is_table t ≡ true → is_wrong_board room ≡ true → (c : ℕ) → refused t 19 ≡ yield_out t c room
  unfolding yield_out
  wrong-yield h e c = rw (h, e)

  module _ (full : ℕ → Bool) (c n : ℕ) (b : List ℕ) where
    pub no-bundle : is_table t ≡ false → refused t 1 ≡ batch_shared full t c n (Records b) room
    unfolding batch_shared
    no-bundle h = rw h

    pub uncounted-bundle : is_table t ≡ true → is_wrong b ≡ true → refused t 14 ≡ batch_shared full t c n (Records b) room
    unfolding batch_shared
    uncounted-bundle h e = rw (h, e)

    pub wrong-bundle : is_table t ≡ true → is_wrong b ≡ false → is_wrong_board room ≡ true → refused t 19 ≡ batch_shared full t c n (Records b) room
    unfolding batch_shared
    wrong-bundle h r e = rw (h, r, e)

    pub right-bundle : is_table t ≡ true → is_wrong b ≡ false → room ≡ board_bytes → (rs : List (List ℕ)) → rs ≡ rows b → bundled t (sent_shared full t c n (held rs)) ≡ batch_shared full t c n (Records b) room
    unfolding batch_shared
    right-bundle h r l rs e = rw (h, r, l) (ap (λ es. bundled t (sent_shared full t c n es)) (ap held e ∙ rows-entries b))

-- t' is left of the table t, and no update more is settled
record Keeps (t t' : List ℕ) : Type 0 where
  table : is_table t' ≡ true
  same : (cells_of t').settled ≡ (cells_of t).settled

-- what is shown from there on is shown from t on
shows_on : (t t' q : List ℕ) → Keeps t t' → Shows t' q → Shows t q
shows_on t t' q K S = record { table = S.table; settles = subst (λ n. Settles n (cells_of q)) K.same S.settles }

keeps-shown : (t t' : List ℕ) → Keeps t t' → Shows t t'
keeps-shown t t' K = record { table = K.table; settles = inl K.same }

-- an update settles nothing
module _ (t : List ℕ) (h : is_table t ≡ true) where
  L : Lower (low t)
  L = (lower_of t h).1

  update-end : (full : Bool) (c n k bib v : ℕ) → Passed (checks (asked t) (Update c n k bib v) ++ (20 if full ∷ []))
      → Keeps t (update_bytes (low t) c n ++ wrote (high t) (cells_of t).updates (entry (kind_of k) c bib v))
  update-end full c n k bib v (e1 also e2 also e3 also e4 also e16 also e5 also e6 also e7 also e8 also e9 also P) =
      let d = update_bytes (low t) c n in
      let u = entry (kind_of k) c bib v in
      let cl = ltb-true c clients (not-false (is_client c) e2) in
      let nl = ltb-true n revisions (and-true (ltb n revisions) _ (not-false (given_out (cells_of t) n) e3)).0 in
      let room = ltb-true (cells_of t).updates updates (not-false _ e9) in
      let D = update-stays (low t) L c n cl nl room in
      record {
        table = table_of d _ D (wrote-length (high t) (cells_of t).updates u (upper_length t (lower_of t h).0) room);
        same = rw (low_of d (wrote (high t) (cells_of t).updates u) D.long, update-decoded (low t) L c n cl nl room);
      }

  row_keeps : (ks : List Check) (end : Out) → (Passed ks → Keeps t end.lent) → Keeps t (settle ks (refused t) end).lent
  row_keeps ks end f = by (Rows.settled (refused t) end ks)
    where
      by : {o : Out} → Settled ks (refused t) end o → Keeps t o.lent
      by (stops i m) = record { table = h; same = refl }
      by (goes P) = f P

  update-keeps : (full : ℕ → Bool) (c n k bib v : ℕ) → Keeps t (update_shared full t c n k bib v).lent
  update-keeps full c n k bib v =
      subst (λ (o : Out). Keeps t o.lent) (sym (update_row full t c n k bib v))
      (row_keeps (checks (asked t) (Update c n k bib v) ++ (20 if full (suc (count_in t)) ∷ [])) _ (update-end (full (suc (count_in t))) c n k bib v))

-- the updates one by one settle nothing; the yield behind them may settle all
module _ (full : ℕ → Bool) where
  sent-shows : (es : List Entry) (t : List ℕ) → is_table t ≡ true → (c n : ℕ) → Shows t (sent_shared full t c n es).lent
  unfolding sent_shared
  sent-shows [] t h c n = yield-shows t h c board_bytes
  sent-shows (e ∷ es) t h c n =
      goes_on (update_shared full t c n e.kind e.bib e.v) (update-keeps t h full c n e.kind e.bib e.v) (λ i. sent-shows es _ i c n)
    where
      goes_on : (o : Out) → Keeps t o.lent → (is_table o.lent ≡ true → Shows o.lent (sent_shared full o.lent c n es).lent) → Shows t (after_taken o (λ d. sent_shared full d c n es)).lent
      goes_on o K f = cases (eqb o.code 0) (λ q. rw q (shows_on t o.lent _ K (f K.table))) (λ q. rw q (keeps-shown t o.lent K))

  pub bundle-shows : (t : List ℕ) → is_table t ≡ true → (c n : ℕ) (es : List Entry) → Shows t (bundled t (sent_shared full t c n es)).lent
  bundle-shows t h c n es = by (sent_shared full t c n es) (sent-shows es t h c n)
    where
      by : (o : Out) → Shows t o.lent → Shows t (bundled t o).lent
      by o S = cases (eqb o.code 0) (λ q. rw q S) (λ q. rw q (stays_shown t h))
