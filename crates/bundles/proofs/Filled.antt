-- Room for records with one record more.
use Prim.Native.Nat.{ℕ, ◌+◌, ◌*◌, ◌-◌, ◌<◌, ◌≤◌, min}
use mathlib.Core.Path.{◌≡◌, refl, sym, ◌∙◌, ap}
use mathlib.Core.List.{List, ◌++◌}
use native.Mathlib.Omega.{arith}
use lib.Dec.{ltb}
use lib.ListN.{length, take, drop, get_or, replicate, replicate-append-replicate}
use lib.Seq.{take_at, drop_at, take_all, take-length, length-take-le}
use borrow.Author.Tests.{ltb-true, ltb-false}
use Rattle.lists.proofs.Cases.{cases}
use Rattle.lists.proofs.Rows as Rows
use Rattle.bundles.specs.declared.entry.Entry.{Entry}
use Rattle.bundles.specs.Packed.{record_of, records_of, with_record}
use Rattle.bundles.specs.Packed.{filled, packed_of}
use Rattle.bundles.proofs.Held.{record_length, records_length}

pub none_filled : (es : List Entry) → replicate 768 0 ≡ filled (take 0 es)
unfolding filled records_of
none_filled es = refl

-- the room behind record i
zeros-left : (k : ℕ) → drop {A = ℕ} 12 (replicate (12 + k) 0) ≡ replicate k 0
zeros-left k = ap (drop 12) (sym (replicate-append-replicate 12 k 0)) ∙ drop_at (replicate 12 0) (replicate k 0) 12 refl

room-left : (i : ℕ) → i < 64 → drop {A = ℕ} 12 (replicate (768 - 12 * i) 0) ≡ replicate (768 - 12 * (i + 1)) 0
room-left i small =
    let left : 768 - 12 * i ≡ 12 + (768 - 12 * (i + 1)) = omega arith in
    ap (λ k. drop {A = ℕ} 12 (replicate k 0)) left ∙ zeros-left (768 - 12 * (i + 1))

-- record i put behind the i records before it
pub one_more : (es : List Entry) (i : ℕ) (d : Entry) → i < 64 → i < length es → with_record (filled (take i es)) i (get_or es i d) ≡ filled (take (i + 1) es)
unfolding filled records_of
one_more es i d small h =
    let size : length (take i es) ≡ i = length-take-le i es (omega arith) in
    let count : length (take (i + 1) es) ≡ i + 1 = length-take-le (i + 1) es (omega arith) in
    Rows.one_more 12 record_of record_length records_of refl (λ e es. refl) es d i h (filled (take i es)) (replicate (768 - 12 * i) 0) (ap (λ k. records_of (take i es) ++ replicate (768 - 12 * k) 0) size)
    ∙ rw count (ap (λ z. records_of (take (i + 1) es) ++ z) (room-left i small))

-- a list of fewer than 64 is taken whole
pub all_taken : (es : List Entry) → take (min (length es) 64) es ≡ take 64 es
all_taken es =
    cases (ltb (length es) 64)
    (λ h.
    let l = ltb-true (length es) 64 h in
    let m : min (length es) 64 ≡ length es = omega arith in
    ap (λ k. take k es) m ∙ take-length es ∙ sym (take_all 64 es (omega arith)))
    (λ h. let g = ltb-false (length es) 64 h in let m : min (length es) 64 ≡ 64 = omega arith in ap (λ k. take k es) m)

-- what is said of the bytes of no more than 64 entries is said of their records
pub packed_records : (es : List Entry) → length es ≤ 64 → take (12 * length es) (packed_of es).bytes ≡ records_of es
unfolding packed_of filled
packed_records es h =
    rw (take_all 64 es h) (take_at (records_of es) (replicate (768 - 12 * length es) 0) (12 * length es) (records_length es))
