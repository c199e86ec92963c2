-- The call from what its checks find.
use Prim.Native.Nat.{ℕ, ◌≤◌}
use mathlib.Core.Bool.{true, false}
use mathlib.Core.Path.{◌≡◌}
use mathlib.Core.List.{List}
use native.Mathlib.Omega.{arith}
use lib.ListN.{length}
use Rattle.lists.proofs.Told.{failed}
use Rattle.orderfile.specs.File.{is_bad_list, offset}
use Rattle.orderfile.specs.Checks.{list_check}
use Rattle.std.specs.Prelude.{Some}
use Rattle.orderfile.proofs.Numbers.{good_fits}
use Rattle.table.specs.Halves.{is_table}
use Rattle.table.specs.Calls.{verdict, verify_out}

pub no_verify : (t : List ℕ) → is_table t ≡ false → (f : List ℕ) → verdict 1 false ≡ verify_out t f
unfolding verify_out
no_verify t h f = rw h

module _ (t f : List ℕ) (h : is_table t ≡ true) where
  module _ (from : ℕ) (e : list_check f ≡ Some from) where
    found : (is_bad_list f ≡ false) × (offset f ≡ from)
    unfolding list_check
    found = let p = failed (is_bad_list f) _ _ _ (λ d. cc) e in (p.0, cc p.1)

    -- where the numbers begin is inside the file
    pub inside : from ≤ length f
    inside = let p = found in let q = good_fits f p.0 in omega arith
