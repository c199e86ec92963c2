-- The shared checks' answers taken apart as tests; and a join from what its checks find.
use Prim.Native.Nat.{ℕ}
use mathlib.Core.Bool.{Bool, true, false, not, cond, ◌||◌}
use mathlib.Core.Path.{◌≡◌, refl}
use mathlib.Core.List.{List, ◌++◌}
use Rattle.boards.specs.Board.{board_bytes}
use Rattle.cells.specs.Decode.{cells}
use Rattle.cells.specs.Steps.{join_bytes}
use Rattle.cells.specs.Checks.{is_client, given_out}
use Rattle.sizes.specs.declared.numbers.Client.{Client}
use Rattle.sizes.specs.declared.numbers.Revision.{Revision}
use Rattle.checks.specs.Answers.{client_check, given_check}
use Rattle.std.specs.Prelude.{Some, None, Result}
use Rattle.table.specs.Halves.{low, high, cells_of, is_table}
use Rattle.table.specs.Answers.{refused, taken}
use Rattle.table.specs.Calls.{join_out}
use Rattle.table.specs.Found.{on_some, on_ok}
use Rattle.table.specs.Checks.{join_check}
use Rattle.table.specs.Told.{code_of}
use Rattle.table.specs.declared.refusal.Refusal.{Refusal}

-- a check's answer taken apart is a test
unless : {A B : Type 0} (f : A → B) (b : Bool) (x y : A) → f (cond b x y) ≡ cond (not b) (f y) (f x)
unless f true x y = refl
unless f false x y = refl

pub client_is : {A : Type 0} (c : ℕ) (end : A) (rest : Client → A) → on_some (client_check c) end rest ≡ cond (not (is_client c)) end (rest (record { 0 = c }))
unfolding client_check on_some
client_is c end rest = unless (λ z. on_some z end rest) (is_client c) (Some (record { 0 = c })) None

pub given_is : {A : Type 0} (d : List ℕ) (n : ℕ) (end : A) (rest : Revision → A)
    → on_some (given_check d n) end rest ≡ cond (not (given_out (cells d) n)) end (rest (record { 0 = n }))
unfolding given_check on_some
given_is d n end rest = unless (λ z. on_some z end rest) (given_out (cells d) n) (Some (record { 0 = n })) None

-- what goes on after a test
pub over : {A B : Type 0} (f : A → B) (b : Bool) (x y : A) → f (cond b x y) ≡ cond b (f x) (f y)
over f true x y = refl
over f false x y = refl

pub ok_cond : {A B E : Type 0} (b : Bool) (x y : Result A E) (end : E → B) (rest : A → B)
    → on_ok (cond b x y) end rest ≡ cond b (on_ok x end rest) (on_ok y end rest)
ok_cond b x y end rest = over (λ z. on_ok z end rest) b x y

-- one of two
pub either : {A : Type 0} (a b : Bool) (x y : A) → cond (a || b) x y ≡ cond a x (cond b x y)
either true b x y = refl
either false b x y = refl

-- a join of a table, with a board of the right length, from what its checks find
pub join_by : (t : List ℕ) → is_table t ≡ true → (n m : ℕ) (z : Result (Revision × Revision) Refusal) → join_check (low t) n m ≡ z
    → on_ok z (λ e. refused t (code_of e)) (λ p. taken (join_bytes (low t) p.0.0 p.1.0 ++ high t) ((cells_of t).count p.1.0)) ≡ join_out t n m board_bytes
unfolding join_check join_out on_ok
join_by t h n m z e = rw (← e) (simp (given_is, ok_cond, either, h))
