-- Each call on bytes, by its row of 01's table of codes (`checks`, crate desk) and its end; the code is proved equal to these definitions. What they say
-- of a day need not be read here: `Explained.agreement` (`consistency` specs/Demand, proved in proofs/Table/Follows) ties them to the plain day, for every
-- buffer made fresh and every list of calls. Of other contents "answers .. follow from the cells alone". A list has its sheet lent, and only reads the table.
use Rattle.std.specs.Prelude.{ℕ, ◌*◌, Bool, false, not, cond, ◌&&◌, List, [], ◌∷◌, ◌++◌, eqb, ltb, length, replicate}
use Rattle.lists.specs.Names.{Name}
use Rattle.bundles.specs.declared.entry.Entry.{Entry}
use Rattle.updates.specs.Kinds.{kind_of}
use Rattle.updates.specs.Effect.{state_of, value_in}
use Rattle.updates.specs.declared.standing.Standing.{Standing}
use Rattle.updates.specs.declared.standing.State.TheVariants.{Neither}
use Rattle.desk.specs.Calls.{Update, Query, Yield, Fork, Join, Sync, Mark, Drop, Bundle, Looks, Show, Fill, Preview, Verify, Bill, Batch, Records, Entries, entries_of}
use Rattle.desk.specs.Checks.{Tests, ◌if◌, checks, settle}
use Rattle.boards.specs.Board.{board_bytes, is_wrong_board}
use Rattle.posting.specs.Brought.{board_after}
use Rattle.bills.specs.Bill.{bill}
use Rattle.orderfile.specs.File.{numbers_in}
use Rattle.orderfile.specs.Test.{fits}
use Rattle.cells.specs.Sizes.{revisions}
use Rattle.cells.specs.Cells.{Cells, next_number}
use Rattle.cells.specs.Order.{order}
use Rattle.cells.specs.Checks.{is_client, given_out, joined, off_line, is_mark, open_elsewhere, busy, busy_by_other, stale, log_full, none_left, joinable, bad_name, no_such_mark, bearer}
use Rattle.cells.specs.Steps.{fresh_bytes, update_bytes, query_bytes, close_bytes, fork_bytes, join_bytes, mark_bytes, drop_bytes}
use Rattle.entries.specs.Sizes as Upper
use Rattle.entries.specs.Stored.{entry}
use Rattle.entries.specs.Entries.{entry_at, wrote}
use Rattle.entries.specs.Folded.{standing_of}
use Rattle.sheets.specs.Sheet.{sheet}
use Rattle.table.specs.Halves.{low, high, cells_of, is_table}
use Rattle.table.specs.Out.{table_bytes, Answer, Level, Out, Prospect}
use Rattle.table.specs.Answers.{refused, taken, answered, after_taken}

-- the standing of a bib after the updates visible at revision n
unfoldable pub standing_at : List ℕ → ℕ → ℕ → Standing
standing_at t n bib = standing_of (entry_at (high t)) bib (order (cells_of t) n)

-- the questions of the codes, asked of the bytes: "answers that follow from the cells alone"
abbrev pub asked : List ℕ → Tests
asked t = record {
  no_table = not (is_table t);
  strange = λ c. not (is_client c);
  never = λ n. not (given_out (cells_of t) n);
  joined = joined (cells_of t);
  off_line = off_line (cells_of t);
  markless = (cells_of t).single;
  marked = is_mark (cells_of t);
  elsewhere = open_elsewhere (cells_of t);
  by_other = busy_by_other (cells_of t);
  busy = busy (cells_of t);
  stale = stale (cells_of t);
  full = log_full (cells_of t);
  all_out = none_left (cells_of t);
  unjoinable = λ n m. not (joinable (cells_of t) n m);
  short = λ n room. ltb room (12 * length (order (cells_of t) n));
  bad_name = bad_name (cells_of t);
  no_mark = no_such_mark (cells_of t);
}

-- fresh: of 1, the length only. 02, U8: "Fresh gains a choice of such a day." U10: 19 of a board that has `room` bytes
unfoldable pub fresh_out : List ℕ → Bool → ℕ → Out
fresh_out t single room =
    settle (1 if not (eqb (length t) table_bytes) ∷ 19 if is_wrong_board room ∷ []) (refused t) (taken (fresh_bytes single ++ replicate Upper.entry_bytes 0) 0)

-- U10: "Fresh clears it"; a refusal leaves it
unfoldable pub fresh_board : List ℕ → Bool → List ℕ → List ℕ
fresh_board t single board = cond (eqb (fresh_out t single (length board)).code 0) (replicate board_bytes 0) board

-- the board after any other call that it is lent to, by the table before and after: what the call brought to box 0 is applied to it. A refusal brings nothing
unfoldable pub board_out : List ℕ → List ℕ → List ℕ → List ℕ
board_out before after board = board_after (cells_of before) (cells_of after) (high after) board

unfoldable pub update_out : List ℕ → ℕ → ℕ → ℕ → ℕ → ℕ → Out
update_out t c n k bib v =
    settle (checks (asked t) (Update c n k bib v)) (refused t)
    (taken (update_bytes (low t) c n ++ wrote (high t) (cells_of t).updates (entry (kind_of k) c bib v)) (cells_of t).updates)

unfoldable pub query_out : List ℕ → ℕ → ℕ → ℕ → Out
query_out t c n bib = settle (checks (asked t) (Query c n bib)) (refused t) (answered (query_bytes (low t) c n ++ high t) (standing_at t n bib))

unfoldable pub yield_out : List ℕ → ℕ → ℕ → Out
yield_out t c room = settle (checks (asked t) (Yield c room)) (refused t) (taken (close_bytes (low t) c ++ high t) 0)

unfoldable pub fork_out : List ℕ → ℕ → Out
fork_out t n = settle (checks (asked t) (Fork n)) (refused t) (taken (fork_bytes (low t) n (next_number (cells_of t)) ++ high t) (next_number (cells_of t)))

abbrev pub join_end : List ℕ → ℕ → ℕ → Out
join_end t n m = taken (join_bytes (low t) n m ++ high t) ((cells_of t).count m)

unfoldable pub join_out : List ℕ → ℕ → ℕ → ℕ → Out
join_out t n m room = settle (checks (asked t) (Join n m room)) (refused t) (join_end t n m)

-- 02, U8: "joins it into box 0, then forks box 0; it is one step": where the fork is refused, the table keeps every byte. No day refuses it
abbrev pub as_one : List ℕ → Out → Out
as_one t o = cond (eqb o.code 0) o (refused t o.code)

unfoldable pub sync_out : List ℕ → ℕ → ℕ → Out
sync_out t m room = settle (checks (asked t) (Sync m room)) (refused t) (as_one t (fork_out (join_end t 0 m).lent 0))

-- 02, U9: "Mark has fork's refusals and value"
unfoldable pub mark_out : List ℕ → ℕ → Name → Out
mark_out t n name = settle (checks (asked t) (Mark n name)) (refused t) (taken (mark_bytes (low t) n (next_number (cells_of t)) name ++ high t) (next_number (cells_of t)))

-- "Dropping a mark, by its name"; "its value is 0"
unfoldable pub drop_out : List ℕ → Name → Out
drop_out t name = settle (checks (asked t) (Drop name)) (refused t) (taken (drop_bytes (low t) (bearer (cells_of t) name) ++ high t) 0)

unfoldable pub list_out : List ℕ → ℕ → List ℕ → Out
list_out t n s =
    settle (checks (asked t) (Looks (Show n (length s)))) (refused s) (taken (sheet (entry_at (high t)) (order (cells_of t) n) s) (length (order (cells_of t) n)))

-- 02, U1: "in a refusal both are 0"
abbrev pub no_fill : ℕ → Level
no_fill code = record { code = code; own = 0; total = 0 }

-- the two numbers of a fill
abbrev pub told : Cells → ℕ → Level
told k n = record { code = 0; own = k.count n; total = k.updates }

unfoldable pub fill_out : List ℕ → ℕ → Level
fill_out t n = settle (checks (asked t) (Looks (Fill n))) no_fill (told (cells_of t) n)

-- 02, U4: "sending the updates one by one and then a yield", with a board of the right length; the first that is refused ends it
unfoldable pub sent_out : List ℕ → ℕ → ℕ → List Entry → Out
sent_out t c n [] = yield_out t c board_bytes
sent_out t c n (e ∷ es) = after_taken (update_out t c n e.kind e.bib e.v) (λ d. sent_out d c n es)

-- "If any of them would be refused, the code of the earliest is given and the table keeps every byte"; "The value is the first
-- entry's number."
abbrev pub bundled : List ℕ → Out → Out
bundled t o = cond (eqb o.code 0) (taken o.lent (cells_of t).updates) (refused t o.code)

abbrev pub batch_out : List ℕ → ℕ → ℕ → Batch → ℕ → Out
batch_out t c n batch room = settle (checks (asked t) (Bundle c n batch room)) (refused t) (bundled t (sent_out t c n (entries_of batch)))

-- "first as 12-byte records, then as a lent list of entries"
unfoldable pub bundle_out : List ℕ → ℕ → ℕ → List ℕ → ℕ → Out
bundle_out t c n records room = batch_out t c n (Records records) room

unfoldable pub entries_out : List ℕ → ℕ → ℕ → List Entry → ℕ → Out
entries_out t c n es room = batch_out t c n (Entries es) room

-- 02, U6: refusals are "with state neither and gain 0"
abbrev pub no_prospect : ℕ → Prospect
no_prospect code = record { code = code; state = Neither; value = 0; gain = 0 }

-- "the state and value at the joiner's line end and the gain"
abbrev pub foreseen : Standing → ℕ → Prospect
foreseen s gain = record { code = 0; state = state_of s; value = value_in s; gain = gain }

-- "equal to joining on a copy of the table and reading there". A reading is no query: no client's checks are asked there
unfoldable pub preview_out : List ℕ → ℕ → ℕ → ℕ → Prospect
preview_out t n m bib = settle (checks (asked t) (Looks (Preview n m bib))) no_prospect (foreseen (standing_at (join_end t n m).lent n bib) (join_end t n m).value)

-- 02, U13: "every box out", busy or marked too
abbrev pub is_out : Cells → ℕ → Bool
is_out k n = given_out k n && not (joined k n)

-- "Say yes, value 1, and else value 0"; a refusal has value 0 too
abbrev pub verdict : ℕ → Bool → Answer
verdict code agrees = record { code = code; value = cond agrees 1 0 }

abbrev pub fits_table : Cells → List ℕ → Bool
fits_table k numbers = fits k.updates revisions (is_out k) (order k) numbers

unfoldable pub verify_out : List ℕ → List ℕ → Answer
verify_out t file = settle (checks (asked t) (Looks (Verify file))) (λ code. verdict code false) (verdict 0 (fits_table (cells_of t) (numbers_in file)))

-- 02, U14: the boxes started and the updates taken, in cents; a refused bill has value 0
abbrev pub no_bill : ℕ → Answer
no_bill code = record { code = code; value = 0 }

abbrev pub charged : Cells → Bool → Answer
charged k member = record { code = 0; value = bill k.started k.updates member }

unfoldable pub bill_out : List ℕ → Bool → Answer
bill_out t member = settle (checks (asked t) (Looks (Bill member))) no_bill (charged (cells_of t) member)
