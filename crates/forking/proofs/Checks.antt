-- What the answer of the check of code 10 says.
use Prim.Native.Nat.{ℕ, ◌<◌}
use mathlib.Core.Bool.{true}
use mathlib.Core.Path.{◌≡◌}
use mathlib.Core.List.{List}
use native.Mathlib.Omega.{arith}
use Rattle.lists.proofs.Told.{failed}
use Rattle.cells.specs.Sizes.{revisions}
use Rattle.cells.specs.Cells.{next_number}
use Rattle.cells.specs.Decode.{cells}
use Rattle.cells.specs.Range.{in_range}
use Rattle.cells.specs.Checks.{none_left}
use Rattle.cells.proofs.Range.{next_ranged, ranges}
use Rattle.sizes.specs.declared.numbers.Revision.{Revision}
use Rattle.checks.specs.Answers.{next_check}
use Rattle.std.specs.Prelude.{Some}

-- code 10
pub next : (d : List ℕ) → in_range d ≡ true → (x : Revision) → next_check d ≡ Some x → (0 < x.0) × (x.0 < revisions)
unfolding next_check
next d i x e =
    let p = failed (none_left (cells d)) _ _ _ (λ d. cc) e in
    let v : x.0 ≡ next_number (cells d) = cc p.1 in
    let n = next_ranged (cells d) (ranges d i) in
    (omega arith, omega arith)
