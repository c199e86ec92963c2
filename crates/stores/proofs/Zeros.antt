-- Bytes that are all 0, as parts; flags that are all set.
use Prim.Native.Nat.{ℕ, zero, suc, ◌/◌, ◌%◌}
use mathlib.Core.Bool.{true}
use mathlib.Core.Path.{◌≡◌, refl, sym, ap, ◌∙◌}
use mathlib.Core.List.{List, []}
use native.Mathlib.Omega.{arith}
use lib.ListN.{replicate, get_or-replicate, replicate-append-replicate}
use Rattle.cells.specs.Sizes.{lower_bytes}
use Rattle.cells.specs.Parts.{parts, size, offset, in_row, glue}
use Rattle.cells.specs.Tables.{every}
use Rattle.cells.specs.Flags.{bit, pack, flag_of}
use Rattle.cells.proofs.Flags.{pack_same}
use Rattle.cells.proofs.Parts.{all-bytes}
use Rattle.cells.proofs.Tables.{every_at}

zeros-in_row : (n : ℕ) → in_row (λ i. replicate (size i) 0) n ≡ replicate (offset n) 0
unfolding in_row offset
zeros-in_row zero = refl
zeros-in_row (suc n) = rw (zeros-in_row n) (replicate-append-replicate (offset n) (size n) 0)

pub zeros : (n : ℕ) → n ≡ lower_bytes → replicate n 0 ≡ glue (λ i. replicate (size i) 0)
unfolding glue
zeros n e = ap (λ k. replicate k 0) (e ∙ sym all-bytes) ∙ sym (zeros-in_row parts)

-- every flag of n rows
all_ones : every (bit 255) 8 ≡ true
unfolding every
all_ones = refl

pub all_flagged : (n : ℕ) (s : List (List ℕ)) → s ≡ replicate n (replicate 8 255) → pack n (flag_of s) ≡ pack n (λ x y. true)
all_flagged n s e =
    pack_same n (flag_of s) (λ x y. true)
    (λ x y h g. ap (λ z. flag_of z x y) e ∙ rw (get_or-replicate n x (replicate {A = ℕ} 8 255) [] h, get_or-replicate {A = ℕ} 8 (y / 8) 255 0 (omega arith)) (every_at (bit 255) 8 (y % 8) all_ones (omega arith)))
