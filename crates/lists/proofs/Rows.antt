-- Rows of k elements, one for each element of a list, one behind the other.
use Prim.Native.Nat.{ℕ, ◌+◌, ◌*◌, ◌<◌}
use mathlib.Core.Path.{◌≡◌, sym, ◌∙◌, ap}
use mathlib.Core.List.{List, [], ◌∷◌, ◌++◌, append_assoc, append-nil}
use native.Mathlib.Nat.{mul-suc}
use native.Mathlib.Numerals.{add-one}
use native.Mathlib.Omega.{arith}
use lib.ListN.{length, take, drop, get_or, length-append}
use lib.Seq.{take_at, drop_at, drop-drop, take-suc, length-take-le}
use Rattle.lists.specs.Arranged.{replaced}

module _ {A : Type 0} (k : ℕ) (row : A → List ℕ) (size : (a : A) → length (row a) ≡ k)
    (rows : List A → List ℕ) (none : rows [] ≡ []) (more : (a : A) (l : List A) → rows (a ∷ l) ≡ row a ++ rows l) where
  rows_append : (l m : List A) → rows (l ++ m) ≡ rows l ++ rows m
  rows_append [] m = ap (λ z. z ++ rows m) (sym none)
  rows_append (a ∷ l) m =
      more a (l ++ m) ∙ ap (λ z. row a ++ z) (rows_append l m) ∙ sym (append_assoc (row a) (rows l) (rows m)) ∙ ap (λ z. z ++ rows m) (sym (more a l))

  pub rows-length : (l : List A) → length (rows l) ≡ k * length l
  rows-length [] = let e = ap (length {A = ℕ}) none in omega arith
  rows-length (a ∷ l) =
      let h = rows-length l in
      let s = size a in
      let m = mul-suc k (length l) in
      ap (length {A = ℕ}) (more a l) ∙ length-append (row a) (rows l) ∙ omega arith

  -- row i put behind the i rows before it: k elements fewer of what stood behind these
  pub one_more : (l : List A) (d : A) (i : ℕ) → i < length l → (s rest : List ℕ) → s ≡ rows (take i l) ++ rest
      → replaced s (k * i) k (row (get_or l i d)) ≡ rows (take (i + 1) l) ++ drop k rest
  one_more l d i h s rest e =
      let a = get_or l i d in
      let first = rows (take i l) in
      let long : length first ≡ k * i = rows-length (take i l) ∙ ap (λ n. k * n) (length-take-le i l (omega arith)) in
      let front : take (k * i) s ≡ first = ap (take (k * i)) e ∙ take_at first rest (k * i) long in
      let back : drop (k * i + k) s ≡ drop k rest = sym (drop-drop k (k * i) s) ∙ ap (drop k) (ap (drop (k * i)) e ∙ drop_at first rest (k * i) long) in
      let next : take (i + 1) l ≡ take i l ++ (a ∷ []) = ap (λ n. take n l) (add-one i) ∙ take-suc l i d h in
      let one : rows (a ∷ []) ≡ row a = more a [] ∙ ap (λ z. row a ++ z) none ∙ append-nil (row a) in
      let all : rows (take (i + 1) l) ≡ first ++ row a = ap rows next ∙ rows_append (take i l) (a ∷ []) ∙ ap (λ z. first ++ z) one in
      rw (front, back, all) (sym (append_assoc first (row a) (drop k rest)))
