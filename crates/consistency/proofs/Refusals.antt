-- A refused call changes nothing, whatever the buffer is.
use Prim.Native.Nat.{ℕ}
use mathlib.Core.Bool.{Bool, false, true, not, true≢false}
use mathlib.Core.Logic.{◌↔◌}
use mathlib.Core.Path.{◌≡◌, refl, sym, ◌∙◌, ap}
use mathlib.Core.List.Memᴰ
use mathlib.Core.List.{List, [], ◌∷◌}
use native.Mathlib.Omega.{arith}
use lib.Dec.{eqb}
use lib.ListN.{length}
use borrow.Author.Tests.{eq-eqb, eqb-false, eqb-true, ne_eqb, not-false}
use Rattle.lists.specs.Lists.{◌∈◌}
use Rattle.lists.proofs.Cases.{cases}
use Rattle.bundles.specs.declared.entry.Entry.{Entry}
use Rattle.boards.specs.Board.{board_bytes, is_wrong_board}
use Rattle.desk.specs.Calls.{Call, Update, Query, Yield, Fork, Join, Sync, Mark, Drop, Bundle, Looks, Show, Fill, Preview, Verify, Bill, Batch, Records, Entries, entries_of}
use Rattle.desk.specs.Checks.{Check, ◌if◌, checks, settle}
use Rattle.desk.specs.Listed.{codes_for}
use Rattle.desk.proofs.Checks as Rows
use Rattle.desk.proofs.Checks.{Passed, Refused, Settled, ◌also◌, among_in, code-exactly, goes, refused-only, settled as settled-row, stops}
use Rattle.table.specs.Answers.{after_taken, refused, taken}
use Rattle.table.specs.Out.{Out, table_bytes}
use Rattle.table.specs.Calls.{asked, batch_out, bill_out, bundle_out, drop_out, entries_out, fill_out, fork_out, fresh_board, fresh_out, join_out, list_out, mark_out, no_bill, no_fill, no_prospect, preview_out, query_out, sent_out, bundled, sync_out, update_out, verdict, verify_out, yield_out}
use Rattle.table.specs.Out.{Answer}
use Rattle.table.specs.Out.{Level}
use Rattle.table.specs.Out.{Prospect}
use Rattle.table.specs.Served.{level_reply, on_table, out_reply, plain_reply, prospect_reply}
use Rattle.table.proofs.Brings.{board-blank}
use Rattle.table.proofs.Syncs.{sync-ends}
use Rattle.consistency.specs.Refusals.{FreshRefused, FreshRefusedExactly, RefusalsChangeNothing}

abbrev listed : Call ℕ → List ℕ
listed c = codes_for c

-- a call that has bytes lent to be written, a fill and a preview
abbrev OutRefused : List ℕ → List ℕ → Out → Type 0
OutRefused lent listed = Refused (λ (o : Out). o.code) (refused lent) listed

out_refused : (t lent : List ℕ) (c : Call ℕ) (end : Out) → (Passed (checks (asked t) c) → (end.code ≡ 0 → ⊥) → OutRefused lent (codes_for c) end)
    → ((settle (checks (asked t) c) (refused lent) end).code ≡ 0 → ⊥) → OutRefused lent (codes_for c) (settle (checks (asked t) c) (refused lent) end)
out_refused t lent c end f = refused-only (λ (o : Out). o.code) (refused lent) (λ k. refl) (asked t) c end f

level-refused : (t : List ℕ) (c : Call ℕ) (end : Level) → (Passed (checks (asked t) c) → (end.code ≡ 0 → ⊥) → Refused (λ (f : Level). f.code) no_fill (codes_for c) end)
    → ((settle (checks (asked t) c) no_fill end).code ≡ 0 → ⊥) → Refused (λ (f : Level). f.code) no_fill (codes_for c) (settle (checks (asked t) c) no_fill end)
level-refused t c end f = refused-only (λ (f : Level). f.code) no_fill (λ k. refl) (asked t) c end f

module _ (t : List ℕ) where
  update-refused : (c n k bib v : ℕ) → ((update_out t c n k bib v).code ≡ 0 → ⊥) → OutRefused t (listed (Update c n k bib v)) (update_out t c n k bib v)
  unfolding update_out
  update-refused c n k bib v = out_refused t t (Update c n k bib v) _ (λ P h. absurd (h refl))

  yield-refused : (c room : ℕ) → ((yield_out t c room).code ≡ 0 → ⊥) → OutRefused t (listed (Yield c room)) (yield_out t c room)
  unfolding yield_out
  yield-refused c room = out_refused t t (Yield c room) _ (λ P h. absurd (h refl))

  preview-refused : (n m bib : ℕ) → ((preview_out t n m bib).code ≡ 0 → ⊥) → Refused (λ (f : Prospect). f.code) no_prospect (listed (Looks (Preview n m bib))) (preview_out t n m bib)
  unfolding preview_out
  preview-refused n m bib = refused-only (λ (f : Prospect). f.code) no_prospect (λ k. refl) (asked t) (Looks (Preview n m bib)) _ (λ P h. absurd (h refl))

  verify-refused : (file : List ℕ) → ((verify_out t file).code ≡ 0 → ⊥) → Refused (λ (a : Answer). a.code) (λ code. verdict code false) (listed (Looks (Verify file))) (verify_out t file)
  unfolding verify_out
  verify-refused file = refused-only (λ (a : Answer). a.code) (λ code. verdict code false) (λ k. refl) (asked t) (Looks (Verify file)) _ (λ P h. absurd (h refl))

  bill-refused : (member : Bool) → ((bill_out t member).code ≡ 0 → ⊥) → Refused (λ (a : Answer). a.code) no_bill (listed (Looks (Bill member))) (bill_out t member)
  unfolding bill_out
  bill-refused member = refused-only (λ (a : Answer). a.code) no_bill (λ k. refl) (asked t) (Looks (Bill member)) _ (λ P h. absurd (h refl))

-- a sync whose checks find nothing is taken
sync-refused : (t : List ℕ) (m room : ℕ) → ((sync_out t m room).code ≡ 0 → ⊥) → OutRefused t (listed (Sync m room)) (sync_out t m room)
unfolding sync_out
sync-refused t m room = out_refused t t (Sync m room) _ (λ P h. absurd (h (ap (λ o. o.code) (sync-ends t m room P))))

-- the updates of a bundle and its yield, one by one: the first refusal has a number of theirs
abbrev event_codes : List ℕ
event_codes = 19 ∷ codes_for {S = ℕ} (Update 0 0 0 0 0)

after-sent : (o : Out) (rest : List ℕ → Out) → ((o.code ≡ 0 → ⊥) → o.code ∈ event_codes) → ((d : List ℕ) → ((rest d).code ≡ 0 → ⊥) → (rest d).code ∈ event_codes)
    → ((after_taken o rest).code ≡ 0 → ⊥) → (after_taken o rest).code ∈ event_codes
after-sent o rest f g = cases (eqb o.code 0) (λ q. rw q (g o.lent)) (λ q. rw q f)

sent-refused : (es : List Entry) (t : List ℕ) (c n : ℕ) → ((sent_out t c n es).code ≡ 0 → ⊥) → (sent_out t c n es).code ∈ event_codes
unfolding sent_out
sent-refused [] t c n = λ h. among_in (1 ∷ 19 ∷ 2 ∷ []) event_codes refl (yield_out t c board_bytes).code (yield-refused t c board_bytes h).number
sent-refused (e ∷ es) t c n =
    after-sent (update_out t c n e.kind e.bib e.v) (λ d. sent_out d c n es) (λ h. Memᴰ.tail (update-refused t c n e.kind e.bib e.v h).number) (λ d. sent-refused es d c n)

bundled-refused : (t : List ℕ) (o : Out) (c n : ℕ) (batch : Batch) (room : ℕ) → ((o.code ≡ 0 → ⊥) → o.code ∈ event_codes) → ((bundled t o).code ≡ 0 → ⊥) → OutRefused t (listed (Bundle c n batch room)) (bundled t o)
bundled-refused t o c n batch room f =
    cases (eqb o.code 0) (λ q. rw q (λ h. absurd (h refl))) (λ q. rw q (λ h. record { number = among_in event_codes (listed (Bundle c n batch room)) refl o.code (f (eqb-false o.code 0 q)); is = refl }))

batch_refused : (t : List ℕ) (c n : ℕ) (batch : Batch) (room : ℕ) → ((batch_out t c n batch room).code ≡ 0 → ⊥) → OutRefused t (listed (Bundle c n batch room)) (batch_out t c n batch room)
batch_refused t c n batch room = out_refused t t (Bundle c n batch room) _ (λ P. bundled-refused t (sent_out t c n (entries_of batch)) c n batch room (sent-refused (entries_of batch) t c n))

pub refusals_change_nothing : RefusalsChangeNothing
unfolding query_out fork_out join_out mark_out drop_out list_out fill_out bundle_out entries_out
refusals_change_nothing t (Update c n k bib v) e = let r = update-refused t c n k bib v e in record { number = r.number; blank = ap on_table r.is }
refusals_change_nothing t (Query c n bib) e = let r = out_refused t t (Query c n bib) _ (λ P h. absurd (h refl)) e in record { number = r.number; blank = ap on_table r.is }
refusals_change_nothing t (Yield c board) e = let r = yield-refused t c (length board) e in record { number = r.number; blank = board-blank t board r.is }
refusals_change_nothing t (Fork n) e = let r = out_refused t t (Fork n) _ (λ P h. absurd (h refl)) e in record { number = r.number; blank = ap on_table r.is }
refusals_change_nothing t (Join n m board) e = let r = out_refused t t (Join n m (length board)) _ (λ P h. absurd (h refl)) e in record { number = r.number; blank = board-blank t board r.is }
refusals_change_nothing t (Mark n name) e = let r = out_refused t t (Mark n name) _ (λ P h. absurd (h refl)) e in record { number = r.number; blank = ap on_table r.is }
refusals_change_nothing t (Drop name) e = let r = out_refused t t (Drop name) _ (λ P h. absurd (h refl)) e in record { number = r.number; blank = ap on_table r.is }
refusals_change_nothing t (Sync m board) e = let r = sync-refused t m (length board) e in record { number = r.number; blank = board-blank t board r.is }
refusals_change_nothing t (Bundle c n (Records bytes) board) e = let r = batch_refused t c n (Records bytes) (length board) e in record { number = r.number; blank = board-blank t board r.is }
refusals_change_nothing t (Bundle c n (Entries es) board) e = let r = batch_refused t c n (Entries es) (length board) e in record { number = r.number; blank = board-blank t board r.is }
refusals_change_nothing t (Looks (Show n s)) e = let r = out_refused t s (Looks (Show n (length s))) _ (λ P h. absurd (h refl)) e in record { number = r.number; blank = ap (λ u. record { reply = out_reply u u.lent; table = t; board = [] }) r.is }
refusals_change_nothing t (Looks (Fill n)) e = let r = level-refused t (Looks (Fill n)) _ (λ P h. absurd (h refl)) e in record { number = r.number; blank = ap (λ f. record { reply = level_reply f; table = t; board = [] }) r.is }
refusals_change_nothing t (Looks (Preview n m bib)) e = let r = preview-refused t n m bib e in record { number = r.number; blank = ap (λ f. record { reply = prospect_reply f; table = t; board = [] }) r.is }
refusals_change_nothing t (Looks (Verify file)) e = let r = verify-refused t file e in record { number = r.number; blank = ap (λ a. record { reply = plain_reply a; table = t; board = [] }) r.is }
refusals_change_nothing t (Looks (Bill member)) e = let r = bill-refused t member e in record { number = r.number; blank = ap (λ a. record { reply = plain_reply a; table = t; board = [] }) r.is }

-- of fresh: its two checks
module _ (t : List ℕ) (single : Bool) (board : List ℕ) where
  abbrev no_table : Check
  no_table = 1 if not (eqb (length t) table_bytes)

  abbrev wrong_board : Check
  wrong_board = 19 if is_wrong_board (length board)

  abbrev made : Out
  made = fresh_out t single (length board)

  pub unmade : (made.code ≡ 0 → ⊥) → Refused (λ (o : Out). o.code) (refused t) (1 ∷ 19 ∷ []) made
  unfolding fresh_out
  unmade = by (settled-row (refused t) _ (no_table ∷ wrong_board ∷ []))
    where
      by : {d : List ℕ} {o : Out} → Settled (no_table ∷ wrong_board ∷ []) (refused t) (taken d 0) o → (o.code ≡ 0 → ⊥) → Refused (λ (o : Out). o.code) (refused t) (1 ∷ 19 ∷ []) o
      by (stops k i) h = record { number = i; is = refl }
      by (goes P) h = absurd (h refl)

  pub still : (made.code ≡ 0 → ⊥) → fresh_board t single board ≡ board
  unfolding fresh_board
  still h = rw (ne_eqb made.code 0 h)

  one : (made.code ≡ 1) ↔ (Passed [] × (no_table.applies ≡ true))
  unfolding fresh_out
  one = code-exactly (λ (o : Out). o.code) (refused t) (λ k. refl) _ no_table (λ e. omega arith) [] (wrong_board ∷ []) refl refl

  nineteen : (made.code ≡ 19) ↔ (Passed (no_table ∷ []) × (wrong_board.applies ≡ true))
  unfolding fresh_out
  nineteen = code-exactly (λ (o : Out). o.code) (refused t) (λ k. refl) _ wrong_board (λ e. omega arith) (no_table ∷ []) [] refl refl

  has-table : Passed (no_table ∷ []) → length t ≡ table_bytes
  has-table (e also P) = eqb-true (length t) table_bytes (not-false _ e)

-- a test of two lengths that fails
differ : (a b : ℕ) → not (eqb a b) ≡ true → a ≡ b → ⊥
differ a b e q = true≢false (sym e ∙ rw (eq-eqb a b q))

pub fresh-refused : FreshRefused
fresh-refused t single board h =
    let r = unmade t single board h in
    record { number = r.number; value = ap (λ (o : Out). o.value) r.is; table = ap (λ (o : Out). o.lent) r.is; board_stays = still t single board h }

pub fresh-refused_exactly : FreshRefusedExactly
fresh-refused_exactly t single board =
    let a = one t single board in
    let b = nineteen t single board in
    record {
      one = (λ e. differ (length t) table_bytes (a.0 e).1, λ n. a.1 (Rows.none, rw (ne_eqb (length t) table_bytes n)));
      wrong_board = (λ e. let p = b.0 e in (has-table t single board p.0, differ (length board) board_bytes p.1), λ (l, n). b.1 ((rw (eq-eqb (length t) table_bytes l)) also Rows.none, rw (ne_eqb (length board) board_bytes n)));
    }
