-- An update from what its checks find.
use Prim.Native.Nat.{ℕ, suc}
use mathlib.Core.Bool.{Bool, true, false, cond}
use mathlib.Core.Path.{◌≡◌, refl, sym, ◌∙◌}
use mathlib.Core.List.{List, ◌++◌}
use Rattle.updates.specs.declared.kind.Kind.{Kind}
use Rattle.updates.specs.declared.kind.UnknownKind.{UnknownKind}
use Rattle.cells.specs.Steps.{update_bytes}
use Rattle.entries.specs.Stored.{entry}
use Rattle.entries.specs.Entries.{wrote}
use Rattle.sizes.specs.declared.numbers.Client.{Client}
use Rattle.sizes.specs.declared.numbers.Revision.{Revision}
use Rattle.table.specs.Halves.{low, high, cells_of, is_table}
use Rattle.updates.specs.Kinds.{is_unknown, kind_in}
use Rattle.table.specs.Answers.{refused, taken}
use Rattle.table.specs.Out.{Out}
use Rattle.table.specs.Found.{on_ok}
use Rattle.table.specs.Shared.{count_in, update_shared}
use Rattle.table.proofs.Calls.{client_is, either, given_is, ok_cond}
use Rattle.table.proofs.Shared.{update_row}
use Rattle.updating.specs.Checks.{update_check}
use Rattle.std.specs.Prelude.{Result, Ok, Err}
use Rattle.table.specs.Told.{code_of}
use Rattle.table.specs.declared.refusal.Refusal.{Refusal}
use Rattle.table.specs.declared.refusal.Refusal.TheVariants.{BadEntry}

kind_is : {A B : Type 0} (q : Result Kind UnknownKind) (rest : Kind → Result A Refusal) (end : Refusal → B) (w : A → B)
    → on_ok (on_ok q (λ e. Err BadEntry) rest) end w ≡ cond (is_unknown q) (end BadEntry) (on_ok (rest (kind_in q)) end w)
unfolding on_ok
kind_is (Err e) rest end w = refl
kind_is (Ok kind) rest end w = refl

-- the update as it is put in
abbrev put_in : List ℕ → ℕ → ℕ → Client → Revision → Kind → Out
put_in t b v x y kind = taken (update_bytes (low t) x.0 y.0 ++ wrote (high t) (cells_of t).updates (entry kind x.0 b v)) (cells_of t).updates

-- the call on bytes that are no table
module _ (t : List ℕ) (h : is_table t ≡ false) where
  pub no-update : (full : ℕ → Bool) (c n k b v : ℕ) → refused t 1 ≡ update_shared full t c n k b v
  no-update full c n k b v = rw (update_row full t c n k b v, h)

-- the call on a table, from what its checks find
module _ (t : List ℕ) (h : is_table t ≡ true) where
  module _ (full : ℕ → Bool) (c n k b v : ℕ) where
    update-by : (z : Result (Client × Revision × Kind) Refusal) → update_check (low t) c n k b ≡ z
        → on_ok z (λ e. refused t (code_of e)) (λ p. cond (full (suc (count_in t))) (refused t 20) (put_in t b v p.0 p.1 p.2)) ≡ update_shared full t c n k b v
    unfolding update_check on_ok
    update-by z e = rw (← e, update_row full t c n k b v) (simp (client_is, given_is, kind_is, ok_cond, either, h))

    module _ (f : Result (Client × Revision × Kind) Refusal) (e : f ≡ update_check (low t) c n k b) where
      pub update-refused : (x : Refusal) → f ≡ Err x → refused t (code_of x) ≡ update_shared full t c n k b v
      unfolding on_ok
      update-refused x g = update-by (Err x) (sym e ∙ g)

      module _ (x : Client) (y : Revision) (kind : Kind) (g : f ≡ Ok (x, y, kind)) where
        allowed : cond (full (suc (count_in t))) (refused t 20) (put_in t b v x y kind) ≡ update_shared full t c n k b v
        unfolding on_ok
        allowed = update-by (Ok (x, y, kind)) (sym e ∙ g)

        pub update-full : full (suc (count_in t)) ≡ true → refused t 20 ≡ update_shared full t c n k b v
        update-full r = rw r at allowed

        pub update-taken : full (suc (count_in t)) ≡ false → {q : List ℕ} {u : ℕ}
            → q ≡ update_bytes (low t) x.0 y.0 ++ wrote (high t) (cells_of t).updates (entry kind x.0 b v) → u ≡ (cells_of t).updates → taken q u ≡ update_shared full t c n k b v
        update-taken r eq eu = rw (eq, eu) (rw r at allowed)
