-- Both halves of a table written anew: the lower one, then no entries.
use Prim.Native.Nat.{ℕ, ◌+◌, ◌≤◌}
use mathlib.Core.Path.{◌≡◌, ◌∙◌}
use mathlib.Core.List.{List, ◌++◌, append-nil}
use native.Mathlib.Omega.{arith}
use lib.ListN.{length, drop, replicate, length-take, length-drop, drop_of_length-le}
use lib.Seq.{take_all, take_at, drop_at}
use borrow.Rule.Slice.PartMut.{mid_of, put_mid}

-- both halves were lent, one after the other, and the upper one came back cleared
pub both_lent : (n k : ℕ) (t q r : List ℕ) → length t ≡ n + k → length q ≡ length (mid_of 0 n t) → r ≡ replicate (length (mid_of n k (put_mid 0 n t q))) 0 → put_mid n k (put_mid 0 n t q) r ≡ q ++ replicate k 0
both_lent n k t q r h e f =
    let l : length q ≡ n = e ∙ simp length-take (omega arith) in
    let m : length (drop n t) ≡ k = simp length-drop (omega arith) in
    let w : length (drop n t) ≤ k = omega arith in
    let p = drop_at q (drop n t) n l in
    let u : r ≡ replicate k 0 = f ∙ rw (p, take_all k (drop n t) w, m) in
    rw (take_at q (drop n t) n l, p, drop_of_length-le (drop n t) w, append-nil, u)
