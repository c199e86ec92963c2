-- An update appended in the lower half of a table, and its entry stored in the upper half.
use Prim.Native.Nat.{ℕ, ◌+◌, ◌<◌}
use mathlib.Core.Path.{◌≡◌, ◌∙◌, ap}
use mathlib.Core.List.{List, [], ◌++◌, append-nil}
use native.Mathlib.Omega.{arith}
use lib.ListN.{length, take, drop, length-append}
use lib.Seq.{drop-length}
use Rattle.cells.specs.Sizes as Lower
use Rattle.cells.specs.Sizes.{updates}
use Rattle.entries.specs.Sizes as Upper
use Rattle.entries.specs.Entries.{wrote}
use Rattle.entries.specs.declared.entry.Entry.{Entry}
use Rattle.table.specs.Halves.{low, high}
use Rattle.table.specs.Out.{table_bytes}
use Rattle.table.proofs.Halves.{low_of, high_of, high_whole, upper_length}

pub below : (u w : ℕ) → u ≡ w → w < updates → u < updates
below u w e h = omega arith

-- the lengths of the halves
length_first : (l r t : List ℕ) (a k : ℕ) → t ≡ l ++ r → length t ≡ a + k → length r ≡ k → length l ≡ a
length_first l r t a k e h hr = let s : length t ≡ length l + length r = rw (e, length-append) in omega arith

end_nil : (k : ℕ) (r : List ℕ) → length r ≡ k → drop k r ≡ []
end_nil k r h = rw (← h) (drop-length r)

-- the entry stored in the high half
pub store_done : (t q : List ℕ) (n : ℕ) (e : Entry) → length t ≡ table_bytes → q ≡ wrote (take Upper.entry_bytes (high t)) n e
    → low t ++ (q ++ drop Upper.entry_bytes (high t)) ≡ low t ++ wrote (high t) n e
store_done t q n e h eq =
    ap (λ (x : List ℕ). low t ++ (q ++ x)) (end_nil Upper.entry_bytes (high t) (upper_length t h))
    ∙ ap (λ (x : List ℕ). low t ++ x) (append-nil q ∙ eq ∙ ap (λ (x : List ℕ). wrote x n e) (high_whole t h))

-- the update appended in the low half, then its entry stored in the high half
pub put_done : (t t1 t2 l : List ℕ) (u w : ℕ) (e : Entry) → length t ≡ table_bytes → length t1 ≡ table_bytes → u ≡ w → t1 ≡ l ++ high t
    → t2 ≡ low t1 ++ wrote (high t1) u e → t2 ≡ l ++ wrote (high t) w e
put_done t t1 t2 l u w e h h1 eu e1 e2 =
    let k : length l ≡ Lower.lower_bytes = length_first l (high t) t1 Lower.lower_bytes Upper.entry_bytes e1 h1 (upper_length t h) in
    e2 ∙ ap (λ (x : List ℕ). low x ++ wrote (high x) u e) e1
    ∙ ap (λ (x : List ℕ). x ++ wrote (high (l ++ high t)) u e) (low_of l (high t) k)
    ∙ ap (λ (x : List ℕ). l ++ wrote x u e) (high_of l (high t) k)
    ∙ ap (λ (x : ℕ). l ++ wrote (high t) x e) eu
