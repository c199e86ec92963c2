-- A fork from what its checks find.
use Prim.Native.Nat.{ℕ}
use mathlib.Core.Bool.{true, cond}
use mathlib.Core.Path.{◌≡◌}
use mathlib.Core.List.{List, ◌++◌}
use Rattle.cells.specs.Cells.{next_number}
use Rattle.cells.specs.Decode.{cells}
use Rattle.cells.specs.Steps.{fork_bytes}
use Rattle.cells.specs.Checks.{none_left}
use Rattle.sizes.specs.declared.numbers.Revision.{Revision}
use Rattle.checks.specs.Answers.{next_check}
use Rattle.table.specs.Halves.{high, is_table, low}
use Rattle.table.specs.Answers.{refused, taken}
use Rattle.table.specs.Calls.{fork_out}
use Rattle.table.specs.Found.{on_ok, on_some}
use Rattle.std.specs.Prelude.{Result}
use Rattle.table.specs.Told.{code_of}
use Rattle.table.specs.declared.refusal.Refusal.{Refusal}
use Rattle.table.proofs.Calls.{over, given_is, ok_cond}
use Rattle.forking.specs.Checks.{fork_check}

-- the check's answer taken apart is a test
pub next_is : {A : Type 0} (d : List ℕ) (end : A) (rest : Revision → A)
    → on_some (next_check d) end rest ≡ cond (none_left (cells d)) end (rest (record { 0 = next_number (cells d) }))
unfolding next_check on_some
next_is d end rest = over (λ z. on_some z end rest) (none_left (cells d)) _ _

-- the call on a table, from what its checks find
pub fork_by : (t : List ℕ) → is_table t ≡ true → (n : ℕ) (z : Result (Revision × Revision) Refusal) → fork_check (low t) n ≡ z
    → on_ok z (λ e. refused t (code_of e)) (λ p. taken (fork_bytes (low t) p.0.0 p.1.0 ++ high t) p.1.0) ≡ fork_out t n
unfolding fork_check fork_out on_ok
fork_by t h n z e = rw (← e) (simp (given_is, next_is, ok_cond, h))

pub same_taken : (a b : List ℕ) (v w : ℕ) → a ≡ b → v ≡ w → taken a v ≡ taken b w
same_taken a b v w e f = rw (e, f)
