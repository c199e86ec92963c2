-- Words for lists of numbers: membership, order, what passes a test, blocks in a row; and a function changed at one place.
use Rattle.std.specs.Prelude.{ℕ, Bool, cond, eqb}
use mathlib.Core.List.{List, [], ◌∷◌, ◌++◌, Memᴰ, Sublistᴰ}

infix 50 ◌∈◌ ◌⊑◌
abbrev pub ◌∈◌ : ℕ → List ℕ → Type 0
n ∈ l = Memᴰ n l

-- an ordered sublist: a is b with some elements left out
abbrev pub ◌⊑◌ : List ℕ → List ℕ → Type 0
a ⊑ b = Sublistᴰ a b

-- the first element, 0 where there is none, and the others
abbrev pub head_of : List ℕ → ℕ
head_of [] = 0
head_of (x ∷ l) = x

abbrev pub rest_of : List ℕ → List ℕ
rest_of [] = []
rest_of (x ∷ l) = l

-- the elements that pass a test
abbrev pub keep : (ℕ → Bool) → List ℕ → List ℕ
keep p [] = []
keep p (x ∷ l) = cond (p x) (x ∷ keep p l) (keep p l)

-- the blocks of a list's elements in a row, first to last
abbrev pub flat : {A : Type 0} → (A → List ℕ) → List A → List ℕ
flat f [] = []
flat f (x ∷ l) = f x ++ flat f l

-- what a function makes of each element
abbrev pub mapped : {A B : Type 0} → (A → B) → List A → List B
mapped f [] = []
mapped f (x ∷ l) = f x ∷ mapped f l

-- a function changed at one place
abbrev pub changed : {A : Type 0} → (ℕ → A) → ℕ → A → ℕ → A
changed f a v x = cond (eqb x a) v (f x)

-- w is l, in its order, when only that stays of which P holds
pub data Only (P : ℕ → Type 0) : List ℕ → List ℕ → Type 0 where
  ends : Only P [] []
  keeps : {e : ℕ} {l w : List ℕ} → P e → Only P l w → Only P (e ∷ l) (e ∷ w)
  drops : {e : ℕ} {l w : List ℕ} → (P e → ⊥) → Only P l w → Only P (e ∷ l) w
