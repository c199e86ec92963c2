-- No claim rests on this file: it serves the code.
-- What the checks of a query find, in their order.
use Rattle.std.specs.Prelude.{ℕ, cond, List, Result, Ok, Err}
use Rattle.updates.specs.Kinds.{bad_bib}
use Rattle.checks.specs.Answers.{client_check, given_check}
use Rattle.cells.specs.Decode.{cells}
use Rattle.cells.specs.Checks.{joined, is_mark, open_elsewhere, busy_by_other, stale}
use Rattle.table.specs.Found.{on_some}
use Rattle.sizes.specs.declared.numbers.Client.{Client}
use Rattle.sizes.specs.declared.numbers.Revision.{Revision}
use Rattle.table.specs.declared.refusal.Refusal.{Refusal}
use Rattle.table.specs.declared.refusal.Refusal.TheVariants.{NeverSent, Joined, Marked, Busy, BadEntry, StrangeClient, OpenElsewhere, NotCaughtUp}

-- 2 to 8 of a query, and 16 after 4
unfoldable pub query_check : List ℕ → ℕ → ℕ → ℕ → Result (Client × Revision) Refusal
query_check d c n bib =
    on_some (client_check c) (Err StrangeClient) (λ x.
    on_some (given_check d n) (Err NeverSent) (λ y.
    cond (joined (cells d) y.0) (Err Joined) (
    cond (is_mark (cells d) y.0) (Err Marked) (
    cond (bad_bib bib) (Err BadEntry) (
    cond (open_elsewhere (cells d) x.0 y.0) (Err OpenElsewhere) (
    cond (busy_by_other (cells d) x.0 y.0) (Err Busy) (
    cond (stale (cells d) x.0 y.0) (Err NotCaughtUp) (
    Ok (x, y)))))))))
