-- A mark from what its checks find.
use Prim.Native.Nat.{ℕ}
use mathlib.Core.Bool.{true}
use mathlib.Core.Path.{◌≡◌}
use mathlib.Core.List.{List, ◌++◌}
use Rattle.lists.specs.Names.{Name}
use Rattle.cells.specs.Steps.{mark_bytes}
use Rattle.table.specs.Halves.{high, is_table, low}
use Rattle.table.specs.Answers.{refused, taken}
use Rattle.table.specs.Calls.{mark_out}
use Rattle.table.specs.Found.{on_ok}
use Rattle.std.specs.Prelude.{Result}
use Rattle.table.specs.Told.{code_of}
use Rattle.sizes.specs.declared.numbers.Revision.{Revision}
use Rattle.table.specs.declared.refusal.Refusal.{Refusal}
use Rattle.table.proofs.Calls.{given_is, ok_cond}
use Rattle.forking.proofs.Calls.{next_is}
use Rattle.marking.specs.Checks.{mark_check}

pub mark_by : (t : List ℕ) → is_table t ≡ true → (n : ℕ) (name : Name) (z : Result (Revision × Revision) Refusal) → mark_check (low t) n name ≡ z
    → on_ok z (λ e. refused t (code_of e)) (λ p. taken (mark_bytes (low t) p.0.0 p.1.0 name ++ high t) p.1.0) ≡ mark_out t n name
unfolding mark_check mark_out on_ok
mark_by t h n name z e = rw (← e) (simp (given_is, next_is, ok_cond, h))
