-- The records of entries hold those entries, and are a bundle if there are 1 to 64.
use Prim.Native.Nat.{ℕ, suc, ◌*◌, ◌/◌, ◌%◌}
use mathlib.Core.Bool.{◌||◌}
use mathlib.Core.Path.{◌≡◌, refl, sym, ◌∙◌, ap}
use mathlib.Core.List.{List, [], ◌∷◌, ◌++◌, append_assoc}
use native.Mathlib.Omega.{arith}
use lib.Dec.{eqb, ltb}
use lib.ListN.{length, take, drop, length-append}
use lib.Seq.{take_at, drop_at}
use Rattle.lists.proofs.Rows.{rows-length}
use Rattle.buffers.proofs.Widths.{number-two, number_word}
use Rattle.bundles.specs.declared.entry.Entry.{Entry}
use Rattle.bundles.specs.Records.{entry_in, entries_from, entries_in, is_wrong, laid}
use Rattle.bundles.specs.Packed.{record_of, records_of}

-- whatever client and number are, the entry is kind, bib and v
pub entry-laid : (kind client bib v number : ℕ) → entry_in (laid kind client bib v number) ≡ record { kind = kind; bib = bib; v = v }
entry-laid kind client bib v number = rw (number-two bib, number_word v)

pub record_length : (e : Entry) → length (record_of e) ≡ 12
unfolding record_of
record_length e = refl

pub records_length : (es : List Entry) → length (records_of es) ≡ 12 * length es
unfolding records_of
records_length = rows-length 12 record_of record_length records_of refl (λ e es. refl)

pub entry_of_record : (e : Entry) → entry_in (record_of e) ≡ e
unfolding record_of
entry_of_record e = entry-laid e.kind 0 e.bib e.v 0

-- the records of es behind i records
from_records : (es : List Entry) (a : List ℕ) (i : ℕ) → length a ≡ 12 * i → entries_from (a ++ records_of es) i (length es) ≡ es
unfolding entries_from records_of
from_records [] a i h = refl
from_records (e ∷ es) a i h =
    let b = a ++ (record_of e ++ records_of es) in
    let l = record_length e in
    let size : length (a ++ record_of e) ≡ 12 * suc i = length-append a (record_of e) ∙ omega arith in
    let bytes : take 12 (drop (12 * i) b) ≡ record_of e = ap (take 12) (drop_at a (record_of e ++ records_of es) (12 * i) h) ∙ take_at (record_of e) (records_of es) 12 l in
    let others : entries_from b (suc i) (length es) ≡ es =
    ap (λ z. entries_from z (suc i) (length es)) (sym (append_assoc a (record_of e) (records_of es))) ∙ from_records es (a ++ record_of e) (suc i) size in
    ap (λ z. z ∷ entries_from b (suc i) (length es)) (ap entry_in bytes ∙ entry_of_record e) ∙ ap (λ z. e ∷ z) others

pub entries_of_records : (es : List Entry) → entries_in (records_of es) ≡ es
unfolding entries_in
entries_of_records es =
    let l = records_length es in
    let n : length (records_of es) / 12 ≡ length es = omega arith in
    ap (entries_from (records_of es) 0) n ∙ from_records es [] 0 refl

-- "if the count is 0 or above 64": the bytes of records are a multiple of 12
pub wrong_records : (es : List Entry) → is_wrong (records_of es) ≡ (eqb (length es) 0 || ltb 64 (length es))
unfolding is_wrong
wrong_records es =
    let l = records_length es in
    let n : length (records_of es) / 12 ≡ length es = omega arith in
    let r : length (records_of es) % 12 ≡ 0 = omega arith in
    rw (n, r)
