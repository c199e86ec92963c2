-- A list of entries put as records: the call says the same of both. And what a count of entries says.
use Prim.Native.Nat.{ℕ, ◌<◌, ◌≤◌}
use mathlib.Core.Bool.{true, false, not, or-true}
use mathlib.Core.Path.{◌≡◌, refl, ◌∙◌, ap}
use mathlib.Core.List.{List, []}
use native.Mathlib.Omega.{arith}
use lib.Dec.{eqb, ltb}
use lib.ListN.{length, take}
use borrow.Author.Tests.{lt-ltb, ltb-false}
use Rattle.lists.proofs.Cases.{cases}
use Rattle.bundles.specs.declared.entry.Entry.{Entry}
use Rattle.bundles.specs.Records.{is_wrong}
use Rattle.bundles.specs.Packed.{among, packed_of, records_in, records_of}
use Rattle.bundles.proofs.Filled.{packed_records}
use Rattle.bundles.proofs.Held.{entries_of_records, wrong_records}
use Rattle.table.specs.Answers.{refused}
use Rattle.table.specs.Found.{check}
use Rattle.table.specs.Calls.{bundle_out, entries_out}
use Rattle.table.specs.Halves.{is_table}

-- what is passed on has room
pub among-most : (n : ℕ) → among n ≤ 64
among-most n =
    cases (ltb 64 n)
    (λ h. rw h (omega arith))
    (λ h. rw h (let k = ltb-false 64 n h in omega arith))

-- 14 of two bundles that are wrong, after 1
wrong_same : (t : List ℕ) (c n : ℕ) (a b : List ℕ) (room : ℕ) → is_wrong a ≡ true → is_wrong b ≡ true → bundle_out t c n a room ≡ bundle_out t c n b room
unfolding bundle_out
wrong_same t c n a b room h k = rw (h, k)

none-wrong : is_wrong [] ≡ true
unfolding is_wrong
none-wrong = refl

many_wrong : (es : List Entry) → ltb 64 (length es) ≡ true → is_wrong (records_of es) ≡ true
many_wrong es h = wrong_records es ∙ rw (h, or-true (eqb (length es) 0))

none_passed : (es : List Entry) → ltb 64 (length es) ≡ true → records_in (packed_of es) ≡ []
unfolding records_in packed_of
none_passed es h = rw h

all_passed : (es : List Entry) → ltb 64 (length es) ≡ false → records_in (packed_of es) ≡ records_of es
unfolding records_in packed_of
all_passed es h = rw h (packed_records es (ltb-false 64 (length es) h))

packed_records_are : (t : List ℕ) (c n : ℕ) (es : List Entry) (room : ℕ) → bundle_out t c n (records_in (packed_of es)) room ≡ bundle_out t c n (records_of es) room
packed_records_are t c n es room =
    cases (ltb 64 (length es))
    (λ h. ap (λ b. bundle_out t c n b room) (none_passed es h) ∙ wrong_same t c n [] (records_of es) room none-wrong (many_wrong es h))
    (λ h. ap (λ b. bundle_out t c n b room) (all_passed es h))

-- a lent list is the bundle of its records
pub records_are : (t : List ℕ) (c n : ℕ) (es : List Entry) (room : ℕ) → bundle_out t c n (records_of es) room ≡ entries_out t c n es room
unfolding bundle_out entries_out
records_are t c n es room = rw (wrong_records es, entries_of_records es)

pub packed_is : (t : List ℕ) (c n : ℕ) (es : List Entry) (room : ℕ) → bundle_out t c n (records_in (packed_of es)) room ≡ entries_out t c n es room
packed_is t c n es room = packed_records_are t c n es room ∙ records_are t c n es room

-- a count above 64
pub too_many : (t : List ℕ) (c n count : ℕ) (es : List Entry) (room : ℕ) → 64 < count → entries_out t c n (take (among count) es) room ≡ check (not (is_table t)) 1 t (refused t 14)
unfolding entries_out
too_many t c n count es room h = rw (lt-ltb 64 count h)
