-- No claim rests on this file: it serves the code.
-- What is known of a bundle before anything is written, and what its updates leave: 02, U4, U12.
use Rattle.std.specs.Prelude.{ℕ, suc, Bool, true, false, cond, ◌≡◌, List, [], ◌∷◌, ◌++◌, Result, Ok, Err, ltb}
use Rattle.updates.specs.Kinds.{kind_check, bad_bib}
use Rattle.updates.specs.declared.kind.Kind.{Kind}
use Rattle.updates.specs.declared.kind.UnknownKind.{UnknownKind}
use Rattle.bundles.specs.declared.entry.Entry.{Entry}
use Rattle.cells.specs.Sizes.{updates}
use Rattle.cells.specs.Checks.{is_client, given_out, joined, is_mark, open_elsewhere, busy_by_other, stale}
use Rattle.cells.specs.Steps.{update_bytes}
use Rattle.entries.specs.Stored.{entry}
use Rattle.entries.specs.Entries.{wrote}
use Rattle.table.specs.Halves.{low, high, cells_of, is_table}
use Rattle.table.specs.Found.{on_ok}
use Rattle.table.specs.declared.refusal.Refusal.{Refusal}
use Rattle.table.specs.declared.refusal.Refusal.TheVariants.{BadEntry, LogFull, CardFull}

-- 2, 3, 4, 16, 6, 7, 8 do not apply: they do not change while one client enters updates on one revision
pub record Going (t : List ℕ) (c n : ℕ) : Type 0 where
  pub sound : is_table t ≡ true
  pub client : is_client c ≡ true
  pub given : given_out (cells_of t) n ≡ true
  pub out : joined (cells_of t) n ≡ false
  pub unmarked : is_mark (cells_of t) n ≡ false
  pub here : open_elsewhere (cells_of t) c n ≡ false
  pub alone : busy_by_other (cells_of t) c n ≡ false
  pub seen : stale (cells_of t) c n ≡ false

-- 5 of an entry, by its bib and the kind that its byte names
abbrev pub entry_of : Bool → Result Kind UnknownKind → Result Kind Refusal
entry_of bad kind = cond bad (Err BadEntry) (on_ok kind (λ e. Err BadEntry) Ok)

unfoldable pub entry_check : ℕ → ℕ → Result Kind Refusal
entry_check k bib = entry_of (bad_bib bib) (kind_check k)

abbrev pub on_fit : Result (Unit {0}) Refusal → Result (Unit {0}) Refusal → Result (Unit {0}) Refusal
on_fit (Ok u) rest = rest
on_fit (Err e) rest = Err e

-- 5, 9, 20 of an entry, where so many updates are taken, of so many at most
unfoldable pub fit_check : ℕ → ℕ → ℕ → ℕ → Result (Unit {0}) Refusal
fit_check k bib taken most = on_ok (entry_check k bib) Err (λ kind. cond (ltb taken updates) (cond (ltb taken most) (Ok tt) (Err CardFull)) (Err LogFull))

-- the earliest refusal of the updates, each with one taken more than the one before it; the yield behind them is taken
unfoldable pub sent_check : List Entry → ℕ → ℕ → Result (Unit {0}) Refusal
sent_check [] taken most = Ok tt
sent_check (e ∷ es) taken most = on_fit (fit_check e.kind e.bib taken most) (sent_check es (suc taken) most)

-- the table after an update that is taken, and after several
unfoldable pub entered : List ℕ → ℕ → ℕ → Entry → List ℕ
entered t c n e = on_ok (kind_check e.kind) (λ x. t) (λ kind. update_bytes (low t) c n ++ wrote (high t) (cells_of t).updates (entry kind c e.bib e.v))

unfoldable pub entered_all : List ℕ → ℕ → ℕ → List Entry → List ℕ
entered_all t c n [] = t
entered_all t c n (e ∷ es) = entered_all (entered t c n e) c n es
