-- The numbers of a file by their index, what a good list is, and that an order written as a file is read back.
use Prim.Native.Nat.{ℕ, zero, suc, ◌+◌, ◌*◌, ◌/◌, ◌%◌, ◌<◌, ◌≤◌}
use mathlib.Core.Bool.{false}
use mathlib.Core.Path.{◌≡◌, refl, ap, ◌∙◌}
use mathlib.Core.List.Memᴰ
use mathlib.Core.List.{List, [], ◌∷◌}
use native.Mathlib.Omega.{arith}
use lib.Dec.{eqb, ltb}
use lib.ListN.{length, drop, get_or}
use borrow.Author.Tests.{ltb-false, le-ltb, eq-eqb, eqb-true, not-false}
use Rattle.lists.specs.Lists.{◌∈◌, flat}
use Rattle.lists.proofs.Blocks.{flat_from}
use Rattle.lists.proofs.Cases.{either, or-false}
use Rattle.buffers.specs.Numbers.{word}
use Rattle.buffers.proofs.Widths.{number_word}
use Rattle.orderfile.specs.File.{count, offset, is_bad_list, numbers_of, numbers_in, in_two, file_of}

-- as many numbers as pairs of bytes
pub numbers-length : (b : List ℕ) → length (numbers_of b) ≡ length b / 2
unfolding numbers_of
numbers-length [] = refl
numbers-length (x ∷ []) = refl
numbers-length (x ∷ y ∷ b) = let h = numbers-length b in omega arith

pub number_at : (b : List ℕ) (i : ℕ) → 2 * i + 2 ≤ length b → get_or b (2 * i) 0 + 256 * get_or b (2 * i + 1) 0 ≡ get_or (numbers_of b) i 0
unfolding numbers_of
number_at [] i h = absurd (omega arith)
number_at (x ∷ []) i h = absurd (omega arith)
number_at (x ∷ y ∷ b) zero h = refl
number_at (x ∷ y ∷ b) (suc i) h =
    let e : 2 * suc i ≡ suc (suc (2 * i)) = omega arith in
    let f : 2 * suc i + 1 ≡ suc (suc (2 * i + 1)) = omega arith in
    rw (f, e) (number_at b i (omega arith))

-- a list that is not bad has its numbers from its offset to its end
pub good_fits : (f : List ℕ) → is_bad_list f ≡ false → (8 ≤ offset f) × (offset f + 2 * count f ≡ length f)
unfolding is_bad_list
good_fits f h =
    let a = or-false (ltb (length f) 8) _ h in
    let b = or-false (ltb (offset f) 8) _ a.1 in
    (ltb-false (offset f) 8 b.0, eqb-true (offset f + 2 * count f) (length f) (not-false (eqb (offset f + 2 * count f) (length f)) b.1))

-- an order as a file is a good list and has the order's numbers
two-length : (ns : List ℕ) → length (flat in_two ns) ≡ 2 * length ns
two-length [] = refl
two-length (n ∷ ns) = let h = two-length ns in omega arith

two_back : (ns : List ℕ) → numbers_of (flat in_two ns) ≡ ns
unfolding numbers_of
two_back [] = refl
two_back (n ∷ ns) = let e : n % 256 + 256 * (n / 256) ≡ n = omega arith in rw (e, two_back ns)

count-written : (ns : List ℕ) → count (file_of ns) ≡ length ns
unfolding file_of
count-written ns = number_word (length ns)

offset-written : (ns : List ℕ) → offset (file_of ns) ≡ 8
unfolding file_of
offset-written ns = number_word 8

length-written : (ns : List ℕ) → length (file_of ns) ≡ 8 + 2 * length ns
unfolding file_of
length-written ns = let h = two-length ns in omega arith

pub written_good : (ns : List ℕ) → is_bad_list (file_of ns) ≡ false
unfolding is_bad_list
written_good ns =
    let l = length-written ns in
    let o = offset-written ns in
    let c = count-written ns in
    let f = file_of ns in
    rw (le-ltb (length f) 8 (omega arith), le-ltb (offset f) 8 (omega arith), eq-eqb (offset f + 2 * count f) (length f) (omega arith))

behind-header : (ns : List ℕ) → numbers_of (drop 8 (file_of ns)) ≡ ns
unfolding file_of
behind-header ns = two_back ns

pub written_back : (ns : List ℕ) → numbers_in (file_of ns) ≡ ns
unfolding numbers_in
written_back ns = ap (λ k. numbers_of (drop k (file_of ns))) (offset-written ns) ∙ behind-header ns

-- of numbers that have two bytes it is a file of bytes
of_two : (n b : ℕ) → n < 65536 → b ∈ in_two n → b < 256
of_two n b h (Memᴰ.tail (Memᴰ.tail x8)) = elim x8 [ ]
of_two n b h (Memᴰ.head e) = omega arith
of_two n b h (Memᴰ.tail (Memᴰ.head e)) = omega arith

of_word : (n b : ℕ) → n < 4294967296 → b ∈ word n → b < 256
of_word n b h (Memᴰ.tail (Memᴰ.tail (Memᴰ.tail (Memᴰ.tail x16)))) = elim x16 [ ]
of_word n b h (Memᴰ.head e) = omega arith
of_word n b h (Memᴰ.tail (Memᴰ.head e)) = omega arith
of_word n b h (Memᴰ.tail (Memᴰ.tail (Memᴰ.head e))) = omega arith
of_word n b h (Memᴰ.tail (Memᴰ.tail (Memᴰ.tail (Memᴰ.head e)))) = omega arith

pub written_bytes : (ns : List ℕ) → length ns < 4294967296 → ((n : ℕ) → n ∈ ns → n < 65536) → (b : ℕ) → b ∈ file_of ns → b < 256
unfolding file_of
written_bytes ns h low b i =
    either (Memᴰ.append_cases (word (length ns)) i) (of_word (length ns) b h) (λ j.
    either (Memᴰ.append_cases (word 8) j) (of_word 8 b (omega arith)) (λ k.
    let f = flat_from in_two b ns k in of_two f.0 b (low f.0 f.1) f.2))
