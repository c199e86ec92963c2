-- No claim rests on this file: it serves the code.
-- What the checks of a preview find, in their order.
use Rattle.std.specs.Prelude.{ℕ, cond, List, Result, Ok, Err}
use Rattle.updates.specs.Kinds.{bad_bib}
use Rattle.table.specs.Found.{on_ok}
use Rattle.table.specs.Checks.{join_check}
use Rattle.sizes.specs.declared.numbers.Revision.{Revision}
use Rattle.table.specs.declared.refusal.Refusal.{Refusal}
use Rattle.table.specs.declared.refusal.Refusal.TheVariants.{BadEntry}

-- those of the join, then 5
unfoldable pub preview_check : List ℕ → ℕ → ℕ → ℕ → Result (Revision × Revision) Refusal
preview_check d n m bib =
    on_ok (join_check d n m) Err (λ p.
    cond (bad_bib bib) (Err BadEntry) (
    Ok p))
