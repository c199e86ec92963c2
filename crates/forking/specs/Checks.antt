-- No claim rests on this file: it serves the code.
-- What the checks of a fork find, in their order.
use Prim.{Unit}
use Rattle.std.specs.Prelude.{ℕ, ◌<◌, cond, List, Result, Ok, Err}
use Rattle.cells.specs.Sizes.{revisions}
use Rattle.checks.specs.Answers.{given_check, next_check}
use Rattle.cells.specs.Decode.{cells}
use Rattle.cells.specs.Checks.{joined, off_line, busy}
use Rattle.table.specs.Found.{on_some}
use Rattle.sizes.specs.declared.numbers.Revision.{Revision}
use Rattle.table.specs.declared.refusal.Refusal.{Refusal}
use Rattle.table.specs.declared.refusal.Refusal.TheVariants.{NeverSent, Joined, OffTheLine, Busy, NoneLeft}

-- 3, 4, 15, 7, 10 of a fork
unfoldable pub fork_check : List ℕ → ℕ → Result (Revision × Revision) Refusal
fork_check d n =
    on_some (given_check d n) (Err NeverSent) (λ p.
    cond (joined (cells d) p.0) (Err Joined) (
    cond (off_line (cells d) p.0) (Err OffTheLine) (
    cond (busy (cells d) p.0) (Err Busy) (
    on_some (next_check d) (Err NoneLeft) (λ c.
    Ok (p, c))))))

-- what is found is in range, and the new number is not the main revision's
abbrev pub ForkIn : Result (Revision × Revision) Refusal → Type 0
ForkIn (Err e) = Unit {0}
ForkIn (Ok p) = (p.0.0 < revisions) × (0 < p.1.0) × (p.1.0 < revisions)
