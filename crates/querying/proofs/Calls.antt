-- A query from what its checks find.
use Prim.Native.Nat.{ℕ}
use mathlib.Core.Bool.{true, false}
use mathlib.Core.Path.{◌≡◌, sym, ◌∙◌}
use mathlib.Core.List.{List, ◌++◌}
use Rattle.updates.specs.Effect.{state_of, value_in}
use Rattle.updates.specs.declared.standing.Standing.{Standing}
use Rattle.cells.specs.Steps.{query_bytes}
use Rattle.sizes.specs.declared.numbers.Client.{Client}
use Rattle.sizes.specs.declared.numbers.Revision.{Revision}
use Rattle.table.specs.Halves.{low, high, is_table}
use Rattle.table.specs.Answers.{refused, answered}
use Rattle.table.specs.Calls.{query_out, standing_at}
use Rattle.table.specs.Found.{on_ok}
use Rattle.table.specs.declared.answer.Reading.{Reading}
use Rattle.std.specs.Prelude.{Result, Ok}
use Rattle.table.specs.declared.refusal.Refusal.{Refusal}
use Rattle.table.specs.Told.{code_of, left_read}
use Rattle.table.proofs.Calls.{client_is, given_is, ok_cond}
use Rattle.querying.specs.Checks.{query_check}

-- the call on bytes that are no table
pub no_query : (t : List ℕ) → is_table t ≡ false → (c n b : ℕ) → refused t 1 ≡ query_out t c n b
unfolding query_out
no_query t h c n b = rw h

-- the call on a table, from what its checks find
module _ (t : List ℕ) (h : is_table t ≡ true) where
  pub query-by : (c n b : ℕ) (z : Result (Client × Revision) Refusal) → query_check (low t) c n b ≡ z
      → on_ok z (λ e. refused t (code_of e)) (λ p. answered (query_bytes (low t) p.0.0 p.1.0 ++ high t) (standing_at t p.1.0 b)) ≡ query_out t c n b
  unfolding query_check query_out on_ok
  query-by c n b z e = rw (← e) (simp (client_is, given_is, ok_cond, h))

  module _ (c n b : ℕ) (f : Result (Client × Revision) Refusal) (e : f ≡ query_check (low t) c n b) where
    pub query-answered : (x : Client) (y : Revision) → f ≡ Ok (x, y) → {a : Reading} {q : List ℕ} {s : Standing} → a ≡ record { state = state_of s; value = value_in s } → q ≡ query_bytes (low t) x.0 y.0 ++ high t
        → s ≡ standing_at t y.0 b → left_read (Ok a) q ≡ query_out t c n b
    unfolding on_ok
    query-answered x y g ea eq es = rw (ea, eq, es) (query-by c n b (Ok (x, y)) (sym e ∙ g))
