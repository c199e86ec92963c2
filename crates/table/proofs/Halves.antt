-- The halves of a table: put together from them, each one lent, and what makes them a table.
use Prim.Native.Nat.{ℕ, ◌+◌}
use mathlib.Core.Bool.{true}
use mathlib.Core.Path.{◌≡◌, ◌∙◌, ap}
use mathlib.Core.List.{List, ◌++◌}
use native.Mathlib.Omega.{arith}
use lib.Dec.{eqb}
use lib.ListN.{length, take, drop, length-append, length-take, length-drop}
use lib.Seq.{take_at, take_all, drop_at}
use borrow.Author.Tests.{eq-eqb, eqb-true}
use borrow.Rule.Slice.PartMut.{mid_of, put_mid}
use Rattle.lists.proofs.Cases.{and-true}
use Rattle.cells.specs.Sizes as Lower
use Rattle.cells.specs.Range.{in_range}
use Rattle.cells.proofs.Stays.{Lower}
use Rattle.entries.specs.Sizes as Upper
use Rattle.table.specs.Halves.{low, high, is_table}
use Rattle.table.specs.Out.{table_bytes}

pub low_of : (a b : List ℕ) → length a ≡ Lower.lower_bytes → low (a ++ b) ≡ a
unfolding low
low_of a b h = take_at a b Lower.lower_bytes h

pub high_of : (a b : List ℕ) → length a ≡ Lower.lower_bytes → high (a ++ b) ≡ b
unfolding high
high_of a b h = drop_at a b Lower.lower_bytes h

front-lent : (k : ℕ) (f : List ℕ → List ℕ) (t q : List ℕ) → q ≡ f (mid_of 0 k t) → put_mid 0 k t q ≡ f (take k t) ++ drop k t
front-lent k f t q e = ap (λ x. x ++ drop k t) e

-- the lower half was lent, and comes back as f of it
pub low-lent : (f : List ℕ → List ℕ) (t q : List ℕ) → q ≡ f (mid_of 0 40960 t) → put_mid 0 40960 t q ≡ f (low t) ++ high t
unfolding low high
low-lent f t q e = front-lent 40960 f t q e

-- the lengths of the halves that are lent
first_length : (a k : ℕ) (t : List ℕ) → length t ≡ a + k → length (mid_of 0 a t) ≡ a
first_length a k t h = simp length-take (omega arith)

last_length : (a k : ℕ) (t : List ℕ) → length t ≡ a + k → length (mid_of a k t) ≡ k
last_length a k t h = simp (length-take, length-drop) (omega arith)

pub low-length : (t : List ℕ) → length t ≡ table_bytes → length (mid_of 0 40960 t) ≡ Lower.lower_bytes
low-length t h = first_length 40960 24576 t h

pub high-length : (t : List ℕ) → length t ≡ table_bytes → length (mid_of 40960 24576 t) ≡ Upper.entry_bytes
high-length t h = last_length 40960 24576 t h

to_end : (a k : ℕ) (t : List ℕ) → length t ≡ a + k → take k (drop a t) ≡ drop a t
to_end a k t h = take_all k (drop a t) (rw length-drop (omega arith))

pub high_whole : (t : List ℕ) → length t ≡ table_bytes → take Upper.entry_bytes (high t) ≡ high t
unfolding high
high_whole t h = to_end Lower.lower_bytes Upper.entry_bytes t h

pub upper_length : (t : List ℕ) → length t ≡ table_bytes → length (high t) ≡ Upper.entry_bytes
unfolding high
upper_length t h = rw length-drop (omega (arith, h))

-- what a table is: its length, and a lower half in range; and two halves put together
pub lower_of : (t : List ℕ) → is_table t ≡ true → (length t ≡ table_bytes) × Lower (low t)
unfolding is_table low
lower_of t e =
    let both = and-true (eqb (length t) table_bytes) (in_range (low t)) e in
    let l = eqb-true (length t) table_bytes both.0 in
    (l, record { long = low-length t l; ranged = both.1 })

pub table_of : (d h : List ℕ) → Lower d → length h ≡ Upper.entry_bytes → is_table (d ++ h) ≡ true
unfolding is_table
table_of d h L e = rw (eq-eqb (length (d ++ h)) table_bytes (length-append d h ∙ omega (arith, L.long, e)), low_of d h L.long) L.ranged
