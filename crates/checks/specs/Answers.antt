-- No claim rests on this file: it serves the code.
-- The answer of each check: 01, "Codes of the desk". Which code an answer gives is said where the calls are.
use Rattle.std.specs.Prelude.{ℕ, cond, List, Option, Some, None}
use Rattle.lists.specs.Names.{Name}
use Rattle.cells.specs.Cells.{next_number}
use Rattle.cells.specs.Decode.{cells}
use Rattle.cells.specs.Checks.{is_client, given_out, joined, off_line, open_elsewhere, busy, busy_by_other, stale, log_full, none_left, joinable, is_mark, bearer, no_such_mark, bad_name}
use Rattle.sizes.specs.declared.numbers.Client.{Client}
use Rattle.sizes.specs.declared.numbers.Revision.{Revision}
use Rattle.checks.specs.declared.joined.JoinedCheck.{JoinedCheck}
use Rattle.checks.specs.declared.joined.JoinedCheck.TheVariants as out
use Rattle.checks.specs.declared.line.LineCheck.{LineCheck}
use Rattle.checks.specs.declared.line.LineCheck.TheVariants as line
use Rattle.checks.specs.declared.marked.MarkedCheck.{MarkedCheck}
use Rattle.checks.specs.declared.marked.MarkedCheck.TheVariants as mark
use Rattle.checks.specs.declared.open.OpenCheck.{OpenCheck}
use Rattle.checks.specs.declared.open.OpenCheck.TheVariants as transaction
use Rattle.checks.specs.declared.busy.UseCheck.{UseCheck}
use Rattle.checks.specs.declared.busy.UseCheck.TheVariants as revision
use Rattle.checks.specs.declared.stale.StaleCheck.{StaleCheck}
use Rattle.checks.specs.declared.stale.StaleCheck.TheVariants as event
use Rattle.checks.specs.declared.log.LogCheck.{LogCheck}
use Rattle.checks.specs.declared.log.LogCheck.TheVariants as log
use Rattle.checks.specs.declared.joinable.JoinableCheck.{JoinableCheck}
use Rattle.checks.specs.declared.joinable.JoinableCheck.TheVariants as join
use Rattle.checks.specs.declared.name.NameCheck.{NameCheck}
use Rattle.checks.specs.declared.name.NameCheck.TheVariants as name

-- 2 "tablet above 15"
unfoldable pub client_check : ℕ → Option Client
client_check n = cond (is_client n) (Some (record { 0 = n })) None

-- 3 "box number not yet given out"
unfoldable pub given_check : List ℕ → ℕ → Option Revision
given_check d n = cond (given_out (cells d) n) (Some (record { 0 = n })) None

-- 4 "box already a joinee"
unfoldable pub joined_check : List ℕ → ℕ → JoinedCheck
joined_check d r = cond (joined (cells d) r) out.Joined out.Out

-- 15, 02, U8: "off the line"
unfoldable pub line_check : List ℕ → ℕ → LineCheck
line_check d r = cond (off_line (cells d) r) line.Off line.On

-- 15 for a mark, 02, U9: "Single-main days have no marks"
unfoldable pub mark_line_check : List ℕ → LineCheck
mark_line_check d = cond (cells d).single line.Off line.On

-- 16, 02, U9: "marked box"
unfoldable pub marked_check : List ℕ → ℕ → MarkedCheck
marked_check d r = cond (is_mark (cells d) r) mark.Marked mark.Unmarked

-- 6 "the tablet's open transaction is on another box"
unfoldable pub open_check : List ℕ → ℕ → ℕ → OpenCheck
open_check d c r = cond (open_elsewhere (cells d) c r) transaction.Elsewhere transaction.Clear

-- 7 "Fork, list, join: the box, or either box, is busy"
unfoldable pub use_check : List ℕ → ℕ → UseCheck
use_check d r = cond (busy (cells d) r) revision.Busy revision.Free

-- 7 "update, query: another tablet has the box busy"
unfoldable pub other_use_check : List ℕ → ℕ → ℕ → UseCheck
other_use_check d c r = cond (busy_by_other (cells d) c r) revision.Busy revision.Free

-- 8 "the path from the tablet's last event is missing"
unfoldable pub stale_check : List ℕ → ℕ → ℕ → StaleCheck
stale_check d c r = cond (stale (cells d) c r) event.Stale event.CaughtUp

-- 9 "4,096 updates taken"
unfoldable pub log_check : List ℕ → LogCheck
log_check d = cond (log_full (cells d)) log.Full log.Room

-- 10, 02, U7: "exactly if 64 boxes are out"; else the next number
unfoldable pub next_check : List ℕ → Option Revision
next_check d = cond (none_left (cells d)) None (Some (record { 0 = next_number (cells d) }))

-- 11 "joinee is box 0, is the joiner, its fork isn't seen, or its start is"
unfoldable pub joinable_check : List ℕ → ℕ → ℕ → JoinableCheck
joinable_check d a b = cond (joinable (cells d) a b) join.Joinable join.Not

-- 17, 02, U9: "not four letters, or in use"
unfoldable pub name_check : List ℕ → Name → NameCheck
name_check d n = cond (bad_name (cells d) n) name.Bad name.Fit

-- 18, 02, U9: "no such mark"; else the number of the mark
unfoldable pub bearer_check : List ℕ → Name → Option Revision
bearer_check d n = cond (no_such_mark (cells d) n) None (Some (record { 0 = bearer (cells d) n }))
