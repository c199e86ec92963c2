-- 02, U12: an update and a bundle of a table that shares its log with others: as alone, and 20 after 9 where the log is full for it.
use Rattle.std.specs.Prelude.{ℕ, suc, Bool, cond, ◌&&◌, List, [], ◌∷◌, eqb, ltb}
use Rattle.bundles.specs.declared.entry.Entry.{Entry}
use Rattle.boards.specs.Board.{board_bytes}
use Rattle.desk.specs.Calls.{Bundle, Batch, entries_of}
use Rattle.desk.specs.Checks.{checks, settle}
use Rattle.table.specs.Answers.{after_taken, refused}
use Rattle.table.specs.Halves.{cells_of}
use Rattle.table.specs.Out.{Out}
use Rattle.table.specs.Calls.{asked, bundled, update_out, yield_out}

-- the updates that a table has taken
abbrev pub count_in : List ℕ → ℕ
count_in t = (cells_of t).updates

-- where a table may have at most so many updates
abbrev pub above : ℕ → ℕ → Bool
above most n = ltb most n

-- 20 is "checked after 9": of an update that nothing else refuses
unfoldable pub finds_full : Bool → Out → Bool
finds_full full o = eqb o.code 0 && full

abbrev pub unless_full : Bool → List ℕ → Out → Out
unless_full full t o = cond (finds_full full o) (refused t 20) o

-- an update where the card is full by `full`, asked of its course's count after it
unfoldable pub update_shared : (ℕ → Bool) → List ℕ → ℕ → ℕ → ℕ → ℕ → ℕ → Out
update_shared full t c n k bib v = unless_full (full (suc (count_in t))) t (update_out t c n k bib v)

-- "For bundles it counts per update": as `sent_out`, the updates one by one and then the yield, while the other three counts stay
unfoldable pub sent_shared : (ℕ → Bool) → List ℕ → ℕ → ℕ → List Entry → Out
sent_shared full t c n [] = yield_out t c board_bytes
sent_shared full t c n (e ∷ es) = after_taken (update_shared full t c n e.kind e.bib e.v) (λ d. sent_shared full d c n es)

unfoldable pub batch_shared : (ℕ → Bool) → List ℕ → ℕ → ℕ → Batch → ℕ → Out
batch_shared full t c n batch room = settle (checks (asked t) (Bundle c n batch room)) (refused t) (bundled t (sent_shared full t c n (entries_of batch)))
