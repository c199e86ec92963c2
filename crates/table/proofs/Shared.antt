-- 02, U12: 20 as the last check of an update's row; and where only 4,096 bounds a table's log, an update and a bundle are as alone.
use Prim.Native.Nat.{ℕ, suc, ◌<◌}
use mathlib.Core.Bool.{Bool, true, cond, not, ◌&&◌}
use mathlib.Core.Path.{◌≡◌, refl, ap}
use mathlib.Core.List.{List, [], ◌∷◌, ◌++◌}
use native.Mathlib.Omega.{arith}
use lib.Dec.{eqb, ltb}
use lib.ListN.{length}
use borrow.Author.Tests.{eqb-true, le-ltb, lt-ltb, ltb-false, ltb-true, not-false, not-true}
use Rattle.lists.proofs.Cases.{and-true, cases}
use Rattle.bundles.specs.declared.entry.Entry.{Entry}
use Rattle.updates.specs.Kinds.{kind_of}
use Rattle.cells.specs.Sizes.{updates}
use Rattle.cells.specs.Steps.{update_bytes}
use Rattle.desk.specs.Calls.{Batch, Bundle, Entries, Records, Update, entries_of}
use Rattle.desk.specs.Checks.{Check, ◌if◌, checks, settle}
use Rattle.desk.proofs.Checks.{Passed, ◌also◌, took}
use Rattle.entries.specs.Stored.{entry}
use Rattle.entries.specs.Entries.{wrote}
use Rattle.table.specs.Answers.{refused, taken}
use Rattle.table.specs.Halves.{high, low}
use Rattle.table.specs.Out.{Out}
use Rattle.table.specs.Calls.{asked, batch_out, bundle_out, entries_out, sent_out, bundled, update_out}
use Rattle.table.specs.Served.{on_board, served}
use Rattle.table.specs.Shared.{above, batch_shared, count_in, finds_full, sent_shared, unless_full, update_shared}

-- one more is above the most exactly where there is no room for it
pub above-next : (most n : ℕ) → above most (suc n) ≡ not (ltb n most)
above-next most n =
    cases (ltb n most)
    (λ e. rw e (le-ltb most (suc n) (ltb-true n most e)))
    (λ e. let l = ltb-false n most e in rw e (lt-ltb most (suc n) (omega arith)))

-- the numbers of a row are none of a call that is taken
abbrev numbered : List Check → Bool
numbered [] = true
numbered (k ∷ ks) = not (eqb k.code 0) && numbered ks

last_in_row : (full : Bool) (t d : List ℕ) (v : ℕ) (ks : List Check) → numbered ks ≡ true
    → unless_full full t (settle ks (refused t) (taken d v)) ≡ settle (ks ++ (20 if full ∷ [])) (refused t) (taken d v)
unfolding finds_full
last_in_row full t d v [] h = refl
last_in_row full t d v (k ∷ ks) h =
    let b = and-true (not (eqb k.code 0)) (numbered ks) h in
    cases k.applies (λ e. rw (e, not-true (eqb k.code 0) b.0)) (λ e. rw e (last_in_row full t d v ks b.1))

-- "checked after 9"
pub update_row : (full : ℕ → Bool) (t : List ℕ) (c n k bib v : ℕ)
    → update_shared full t c n k bib v
    ≡ settle (checks (asked t) (Update c n k bib v) ++ (20 if full (suc (count_in t)) ∷ [])) (refused t)
    (taken (update_bytes (low t) c n ++ wrote (high t) (count_in t) (entry (kind_of k) c bib v)) (count_in t))
unfolding update_shared update_out
update_row full t c n k bib v = last_in_row (full (suc (count_in t))) t _ _ (checks (asked t) (Update c n k bib v)) refl

-- an update is taken only below 4,096
pub has_room : (t : List ℕ) (c n k bib v : ℕ) → (update_out t c n k bib v).code ≡ 0 → count_in t < updates
unfolding update_out
has_room t c n k bib v e = by (took (λ (o : Out). o.code) (refused t) (λ k. refl) (asked t) (Update c n k bib v) _ e).passed
  where
    by : Passed (checks (asked t) (Update c n k bib v)) → count_in t < updates
    by (e1 also e2 also e3 also e4 also e16 also e5 also e6 also e7 also e8 also e9 also P) = ltb-true (count_in t) updates (not-false _ e9)

pub update-alone : (t : List ℕ) (c n k bib v : ℕ) → update_shared (above updates) t c n k bib v ≡ update_out t c n k bib v
unfolding update_shared finds_full
update-alone t c n k bib v = by (update_out t c n k bib v) (has_room t c n k bib v)
  where
    by : (o : Out) → (o.code ≡ 0 → count_in t < updates) → unless_full (above updates (suc (count_in t))) t o ≡ o
    by o h = cases (eqb o.code 0) (λ e. rw (e, le-ltb updates (suc (count_in t)) (h (eqb-true o.code 0 e)))) (λ e. rw e)

pub sent-alone : (es : List Entry) (t : List ℕ) (c n : ℕ) → sent_shared (above updates) t c n es ≡ sent_out t c n es
unfolding sent_shared sent_out
sent-alone [] t c n = refl
sent-alone (e ∷ es) t c n = let u = update_out t c n e.kind e.bib e.v in rw (update-alone t c n e.kind e.bib e.v) (ap (λ (o : Out). cond (eqb u.code 0) o u) (sent-alone es u.lent c n))

pub batch_alone : (t : List ℕ) (c n : ℕ) (batch : Batch) (room : ℕ) → batch_shared (above updates) t c n batch room ≡ batch_out t c n batch room
unfolding batch_shared
batch_alone t c n batch room = ap (λ o. settle (checks (asked t) (Bundle c n batch room)) (refused t) (bundled t o)) (sent-alone (entries_of batch) t c n)

-- records and entries alike
pub bundle_is : (t : List ℕ) (c n : ℕ) (batch : Batch) (board : List ℕ) → served t (Bundle c n batch board) ≡ on_board t board (batch_out t c n batch (length board))
unfolding bundle_out entries_out
bundle_is t c n (Records bytes) board = refl
bundle_is t c n (Entries es) board = refl
