-- k elements of a list from place a on, replaced by as many others; the same in rows of k; and k elements lent.
use Prim.Native.Nat.{ℕ, ◌+◌, ◌*◌, ◌-◌, ◌<◌, ◌≤◌}
use mathlib.Core.Path.{◌≡◌, sym, ◌∙◌, ap}
use mathlib.Core.Logic.{◌≢◌}
use mathlib.Core.List.{List, ◌++◌, append_assoc}
use native.Mathlib.Nat.{mul-le-mul_left, mul-suc}
use native.Mathlib.Omega.{arith}
use lib.Dec.{ltb}
use lib.ListN.{length, take, drop, length-append, length-drop, take-append-drop}
use lib.Seq.{take_at, drop_at, drop-drop, take-append-le, drop-append-le, length-take-le}
use borrow.Author.Tests.{ltb-true, ltb-false}
use Rattle.lists.specs.Arranged.{replaced}
use Rattle.lists.proofs.Cases.{cases}

-- a part of p is that part of p ++ q
part_first : {A : Type 0} (p q : List A) (b j : ℕ) → b + j ≤ length p → take j (drop b (p ++ q)) ≡ take j (drop b p)
part_first p q b j h =
    rw (drop-append-le b p q (omega arith)) (take-append-le j (drop b p) q (rw length-drop (omega arith)))

module _ {A : Type 0} (t s : List A) (a k : ℕ) (fits : a + k ≤ length t) (size : length s ≡ k) where
  front : length (take a t) ≡ a
  front = length-take-le a t (omega arith)

  pub replaced-length : length (replaced t a k s) ≡ length t
  replaced-length = simp (length-append, length-drop, front, size) (omega arith)

  pub replaced-here : take k (drop a (replaced t a k s)) ≡ s
  replaced-here = rw (drop_at (take a t) (s ++ drop (a + k) t) a front) (take_at s (drop (a + k) t) k size)

  replaced-left : (b j : ℕ) → b + j ≤ a → take j (drop b (replaced t a k s)) ≡ take j (drop b t)
  replaced-left b j h =
      let l : b + j ≤ length (take a t) = rw front h in
      part_first (take a t) (s ++ drop (a + k) t) b j l
      ∙ sym (part_first (take a t) (drop a t) b j l)
      ∙ ap (λ z. take j (drop b z)) (take-append-drop a t)

  rest : drop (a + k) (replaced t a k s) ≡ drop (a + k) t
  rest =
      rw (← append_assoc (take a t) s (drop (a + k) t))
      (drop_at (take a t ++ s) (drop (a + k) t) (a + k) (simp (length-append, front, size)))

  replaced-right : (b : ℕ) → a + k ≤ b → drop b (replaced t a k s) ≡ drop b t
  replaced-right b h =
      let e : a + k + (b - (a + k)) ≡ b = omega arith in
      rw (← e, ← drop-drop (b - (a + k)) (a + k) (replaced t a k s), ← drop-drop (b - (a + k)) (a + k) t, rest)

-- a row's place: rows of k elements
pub next_row : (k m n : ℕ) → m < n → k * m + k ≤ k * n
next_row k m n h = let g = mul-le-mul_left k h in let e = mul-suc k m in omega arith

-- row n replaced leaves the other rows
pub replaced-other : {A : Type 0} (t s : List A) (k n m : ℕ) → k * n + k ≤ length t → length s ≡ k → m ≢ n → take k (drop (k * m) (replaced t (k * n) k s)) ≡ take k (drop (k * m) t)
replaced-other t s k n m fits size o =
    cases (ltb m n)
    (λ q. replaced-left t s (k * n) k fits size (k * m) k (next_row k m n (ltb-true m n q)))
    (λ q. let g = ltb-false m n q in ap (take k) (replaced-right t s (k * n) k fits size (k * m) (next_row k n m (omega (arith, o)))))

-- for code: k elements lent as `&t[a..a + k]`, and lent elements that come back as s
pub lent-size : (a k : ℕ) → a + k - a ≡ k
lent-size a k = omega arith

pub lent-replaced : {A : Type 0} (t q s : List A) (a k : ℕ) → q ≡ s → take a t ++ (q ++ drop (a + k - a) (drop a t)) ≡ replaced t a k s
lent-replaced t q s a k h = rw (h, lent-size a k, drop-drop k a t)
