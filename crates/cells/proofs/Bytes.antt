-- Lists of bytes: parts of them are bytes, and so are packed flags and a row replaced; and bytes are their own flags packed.
use Prim.Native.Nat.{ℕ, zero, suc, ◌+◌, ◌*◌, ◌/◌, ◌%◌, ◌<◌, ◌≤◌}
use mathlib.Core.Bool.{Bool, true, false}
use mathlib.Core.Path.{◌≡◌, refl, sym, ◌∙◌}
use mathlib.Core.List.{List, [], ◌∷◌, ◌++◌}
use native.Mathlib.Omega.{arith}
use lib.Dec.{eqb, ltb}
use lib.ListN.{length, take, drop, length-take, get_or-eq_default}
use lib.Seq.{get_or-take, get_or-drop}
use borrow.Author.Tests.{eqb-true, ltb-true, ltb-false, lt-ltb}
use Rattle.lists.proofs.Cases.{cases}
use Rattle.cells.specs.Tables.{tab, every}
use Rattle.cells.specs.Parts.{offset, size, split}
use Rattle.cells.specs.Words.{byte, Bytes}
use Rattle.cells.specs.Flags.{bit, flag_in, worth, byte_of, row_bytes, put_row, pack}
use Rattle.cells.proofs.Tables.{every_at, get_or-tab, length-tab, tab_of, tab_same}
use Rattle.cells.proofs.Flags.{byte_same}

-- past the end there is 0
past_end : (t : List ℕ) (i : ℕ) → length t ≤ i → byte t i < 256
past_end t i h = rw (get_or-eq_default t 0 {n = i} h) (omega arith)

pub take_bytes : (n : ℕ) (t : List ℕ) → Bytes t → Bytes (take n t)
take_bytes n t b i =
    cases (ltb i n)
    (λ e. rw (get_or-take n t i 0 (ltb-true i n e)) (b i))
    (λ e. let l = ltb-false i n e in let m = length-take n t in past_end (take n t) i (omega arith))

drop-bytes : (n : ℕ) (t : List ℕ) → Bytes t → Bytes (drop n t)
drop-bytes n t b i = rw (get_or-drop n t i 0) (b (n + i))

pub split_bytes : (d : List ℕ) → Bytes d → (i : ℕ) → Bytes (split d i)
unfolding split
split_bytes d b i = take_bytes (size i) (drop (offset i) d) (drop-bytes (offset i) d b)

append_bytes : (s t : List ℕ) → Bytes s → Bytes t → Bytes (s ++ t)
append_bytes [] t b c i = c i
append_bytes (x ∷ s) t b c zero = b 0
append_bytes (x ∷ s) t b c (suc i) = append_bytes s t (λ j. b (suc j)) c i

tab_bytes : (f : ℕ → ℕ) (n : ℕ) → ((i : ℕ) → f i < 256) → Bytes (tab f n)
tab_bytes f n h i =
    cases (ltb i n)
    (λ e. rw (get_or-tab f n i 0 (ltb-true i n e)) (h i))
    (λ e. let l = ltb-false i n e in let m = length-tab f n in past_end (tab f n) i (omega arith))

most : (b : Bool) (w : ℕ) → worth b w ≤ w
most true w = omega arith
most false w = omega arith

is_byte : (f : ℕ → Bool) → byte_of f < 256
is_byte f = omega (arith, most (f 0) 1, most (f 1) 2, most (f 2) 4, most (f 3) 8, most (f 4) 16, most (f 5) 32, most (f 6) 64, most (f 7) 128)

pub pack_bytes : (n : ℕ) (f : ℕ → ℕ → Bool) → Bytes (pack n f)
unfolding pack
pack_bytes n f = tab_bytes _ (8 * n) (λ i. is_byte (λ j. f (i / 8) (8 * (i % 8) + j)))

pub put_row_bytes : (w : ℕ) (t : List ℕ) (r : ℕ) (f : ℕ → Bool) → Bytes t → Bytes (put_row w t r f)
unfolding put_row row_bytes
put_row_bytes w t r f b =
    append_bytes (take (w * r) t) _ (take_bytes (w * r) t b)
    (append_bytes (tab (λ i. byte_of (λ j. f (8 * i + j))) w) _ (tab_bytes _ w (λ i. is_byte (λ j. f (8 * i + j)))) (drop-bytes (w * r + w) t b))

-- a byte is the byte of its own bits: looked up for each of the 256 bytes
all-bytes : every (λ b. eqb (byte_of (bit b)) b) 256 ≡ true
unfolding every
all-bytes = refl

pub bits_byte : (b : ℕ) → b < 256 → byte_of (bit b) ≡ b
bits_byte b h = eqb-true _ b (every_at (λ z. eqb (byte_of (bit z)) z) 256 b all-bytes h)

pub packed_flags : (n : ℕ) (t : List ℕ) → length t ≡ 8 * n → Bytes t → pack n (flag_in 8 n t) ≡ t
unfolding pack
packed_flags n t l b =
    let flag : ℕ → ℕ → Bool = λ i j. flag_in 8 n t (i / 8) (8 * (i % 8) + j) in
    let same : (i j : ℕ) → i < 8 * n → j < 8 → flag i j ≡ bit (byte t i) j = λ i j h m.
    let x : 8 * (i / 8) + (8 * (i % 8) + j) / 8 ≡ i = omega arith in
    let y : (8 * (i % 8) + j) % 8 ≡ j = omega arith in
    rw (lt-ltb (i / 8) n (omega arith), lt-ltb (8 * (i % 8) + j) 64 (omega arith), x, y) in
    tab_same (λ i. byte_of (flag i)) (byte t) (8 * n) (λ i h. byte_same (flag i) (bit (byte t i)) (λ j m. same i j h m) ∙ bits_byte (byte t i) (b i))
    ∙ sym (tab_of t 0 (8 * n) l)
