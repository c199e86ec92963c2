-- A preview from what its checks find, and its end on the joined copy.
use Prim.Native.Nat.{ℕ}
use mathlib.Core.Bool.{true}
use mathlib.Core.Path.{◌≡◌}
use mathlib.Core.List.{List, ◌++◌}
use lib.ListN.{length}
use Rattle.updates.specs.Effect.{state_of, value_in}
use Rattle.updates.specs.declared.standing.Standing.{Standing}
use Rattle.cells.specs.Sizes as Lower
use Rattle.cells.specs.Decode.{cells}
use Rattle.cells.specs.Order.{order}
use Rattle.cells.specs.Steps.{join_bytes}
use Rattle.entries.specs.Entries.{entry_at}
use Rattle.entries.specs.Folded.{standing_of}
use Rattle.table.specs.Halves.{low, high, cells_of, is_table}
use Rattle.table.specs.Calls.{foreseen, no_prospect, preview_out, standing_at}
use Rattle.table.specs.Found.{on_ok}
use Rattle.table.specs.Checks.{join_check}
use Rattle.table.specs.Out.{Prospect}
use Rattle.table.specs.declared.answer.Reading.{Reading}
use Rattle.std.specs.Prelude.{Result}
use Rattle.sizes.specs.declared.numbers.Revision.{Revision}
use Rattle.table.specs.Told.{code_of}
use Rattle.table.specs.declared.refusal.Refusal.{Refusal}
use Rattle.table.proofs.Halves.{high_of, low_of}
use Rattle.table.proofs.Calls.{given_is, ok_cond, either}
use Rattle.previewing.specs.Checks.{preview_check}

-- a copy with lower half d and upper half h
module _ (d h : List ℕ) (e : length d ≡ Lower.lower_bytes) where
  copy-standing : (r bib : ℕ) → standing_at (d ++ h) r bib ≡ standing_of (entry_at h) bib (order (cells d) r)
  unfolding standing_at
  copy-standing r bib = rw (low_of d h e, high_of d h e)

  -- the bib stands as s there
  pub seen : (r bib gain : ℕ) {s : Standing} {a : Reading} → a ≡ record { state = state_of s; value = value_in s } → s ≡ standing_of (entry_at h) bib (order (cells d) r)
      → ◌≡◌ {A = Prospect} (record { code = 0; state = a.state; value = a.value; gain = gain }) (foreseen (standing_at (d ++ h) r bib) gain)
  seen r bib gain ea es = rw (copy-standing r bib, ea, es)

module _ (t : List ℕ) (n m bib : ℕ) where
  -- the call on a table, from what its checks find
  pub preview-by : is_table t ≡ true → (z : Result (Revision × Revision) Refusal) → preview_check (low t) n m bib ≡ z
      → on_ok z (λ e. no_prospect (code_of e)) (λ p. foreseen (standing_at (join_bytes (low t) p.0.0 p.1.0 ++ high t) p.0.0 bib) ((cells_of t).count p.1.0)) ≡ preview_out t n m bib
  unfolding preview_check join_check preview_out on_ok
  preview-by h z e = rw (← e) (simp (given_is, ok_cond, either, h))
