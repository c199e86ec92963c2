-- What a good file is: its header and its length fit, and each of its records is whole.
use Prim.Native.Nat.{ℕ, ◌+◌, ◌*◌, ◌≤◌, ◌<◌}
use mathlib.Core.Bool.{false}
use mathlib.Core.Path.{◌≡◌, sym, ◌∙◌, ap}
use mathlib.Core.List.{List}
use native.Mathlib.Omega.{arith}
use lib.Dec.{eqb, ltb}
use lib.ListN.{length, take, drop}
use borrow.Author.Tests.{ltb-false, eqb-true, not-false, le-leb}
use Rattle.std.proofs.Common.{Some, None}
use Rattle.lists.proofs.Cases.{or-false}
use Rattle.lists.proofs.Told.{failed}
use Rattle.dayfile.specs.File.{step_count, offset, is_bad, file_check}
use Rattle.dayfile.specs.Record.{step_at, step_of}

module _ (f : List ℕ) (n : ℕ) (h : file_check f ≡ Some n) where
  good : (is_bad f ≡ false) × (Some (step_count f) ≡ Some n)
  unfolding file_check
  good = failed (is_bad f) None (Some (step_count f)) (Some n) (λ e. cc) h

  pub count-is : step_count f ≡ n
  count-is = cc good.1

  pub header-fits : (8 ≤ offset f) × (offset f + 12 * n ≡ length f) × (length f ≤ 65536)
  header-fits =
      let a = or-false (ltb (length f) 8) _ good.0 in
      let b = or-false (ltb 65536 (length f)) _ a.1 in
      let c = or-false (ltb (offset f) 8) _ b.1 in
      let e = eqb-true (offset f + 12 * step_count f) (length f) (not-false (eqb (offset f + 12 * step_count f) (length f)) c.1) in
      (ltb-false (offset f) 8 c.0, ap (λ k. offset f + 12 * k) (sym count-is) ∙ e, ltb-false 65536 (length f) b.0)

  -- 5,460 records at most
  pub count-bound : n ≤ 5460
  count-bound = let g = header-fits in omega arith

  -- no record of a good file is unknown for want of bytes
  pub record-whole : (i : ℕ) → i < n → step_at f i ≡ step_of (take 12 (drop (offset f + 12 * i) f))
  unfolding step_at
  record-whole i l = let g = header-fits in simp (le-leb (offset f + 12 * i + 12) (length f) (omega arith))
