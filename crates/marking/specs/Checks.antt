-- No claim rests on this file: it serves the code.
-- What the checks of a mark find, in their order.
use Prim.{Unit}
use Rattle.std.specs.Prelude.{ℕ, ◌<◌, cond, ◌≡◌, List, length, Result, Ok, Err}
use Rattle.lists.specs.Names.{Name}
use Rattle.cells.specs.Sizes.{revisions}
use Rattle.checks.specs.Answers.{given_check, next_check}
use Rattle.cells.specs.Decode.{cells}
use Rattle.cells.specs.Checks.{joined, busy, bad_name}
use Rattle.table.specs.Found.{on_some}
use Rattle.sizes.specs.declared.numbers.Revision.{Revision}
use Rattle.table.specs.declared.refusal.Refusal.{Refusal}
use Rattle.table.specs.declared.refusal.Refusal.TheVariants.{NeverSent, Joined, OffTheLine, Busy, NoneLeft, BadName}

-- 3, 4, 15, 7, 10, 17 of a mark
unfoldable pub mark_check : List ℕ → ℕ → Name → Result (Revision × Revision) Refusal
mark_check d n name =
    on_some (given_check d n) (Err NeverSent) (λ p.
    cond (joined (cells d) p.0) (Err Joined) (
    cond (cells d).single (Err OffTheLine) (
    cond (busy (cells d) p.0) (Err Busy) (
    on_some (next_check d) (Err NoneLeft) (λ c.
    cond (bad_name (cells d) name) (Err BadName) (
    Ok (p, c)))))))

-- what is found is in range, the new number is not the main revision's, and the name has four bytes
abbrev pub MarkIn : Name → Result (Revision × Revision) Refusal → Type 0
MarkIn name (Err e) = Unit {0}
MarkIn name (Ok p) = (p.0.0 < revisions) × (0 < p.1.0) × (p.1.0 < revisions) × (length name ≡ 4)
