-- No claim rests on this file: it serves the code.
-- What the checks of an update find, in their order; and whether a log has room.
use Prim.{Unit}
use Rattle.std.specs.Prelude.{ℕ, ◌<◌, cond, List, Result, Ok, Err, ltb}
use Rattle.updates.specs.Kinds.{kind_check, bad_bib}
use Rattle.cells.specs.Sizes.{clients, revisions, updates}
use Rattle.cells.specs.Decode.{cells}
use Rattle.cells.specs.Checks.{joined, is_mark, open_elsewhere, busy_by_other, stale, log_full}
use Rattle.entries.specs.Sizes.{bib_range}
use Rattle.checks.specs.Answers.{client_check, given_check}
use Rattle.checks.specs.declared.log.LogCheck.{LogCheck}
use Rattle.checks.specs.declared.log.LogCheck.TheVariants as log
use Rattle.table.specs.Found.{on_ok, on_some}
use Rattle.updates.specs.declared.kind.Kind.{Kind}
use Rattle.sizes.specs.declared.numbers.Client.{Client}
use Rattle.sizes.specs.declared.numbers.Revision.{Revision}
use Rattle.table.specs.declared.refusal.Refusal.{Refusal}
use Rattle.table.specs.declared.refusal.Refusal.TheVariants.{StrangeClient, NeverSent, Joined, Marked, BadEntry, OpenElsewhere, Busy, NotCaughtUp, LogFull}

-- 2 to 9 of an update, and 16 after 4
unfoldable pub update_check : List ℕ → ℕ → ℕ → ℕ → ℕ → Result (Client × Revision × Kind) Refusal
update_check d c n k bib =
    on_some (client_check c) (Err StrangeClient) (λ x.
    on_some (given_check d n) (Err NeverSent) (λ y.
    cond (joined (cells d) y.0) (Err Joined) (
    cond (is_mark (cells d) y.0) (Err Marked) (
    cond (bad_bib bib) (Err BadEntry) (
    on_ok (kind_check k) (λ e. Err BadEntry) (λ kind.
    cond (open_elsewhere (cells d) x.0 y.0) (Err OpenElsewhere) (
    cond (busy_by_other (cells d) x.0 y.0) (Err Busy) (
    cond (stale (cells d) x.0 y.0) (Err NotCaughtUp) (
    cond (log_full (cells d)) (Err LogFull) (
    Ok (x, y, kind)))))))))))

-- what is found is in range
abbrev pub UpdateIn : List ℕ → ℕ → Result (Client × Revision × Kind) Refusal → Type 0
UpdateIn d bib (Err e) = Unit {0}
UpdateIn d bib (Ok p) = (p.0.0 < clients) × (p.1.0 < revisions) × ((cells d).updates < updates) × (bib < bib_range)

-- room for one more where so many are taken, of so many at most
unfoldable pub room_check : ℕ → ℕ → LogCheck
room_check taken most = cond (ltb taken most) log.Room log.Full
