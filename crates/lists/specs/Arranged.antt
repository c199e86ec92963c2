-- Of the claims only those about boards rest on this file (`replaced`); else it serves proofs and code. Further words for lists: one element put in or taken out, some replaced, blocks last to first.
use Rattle.std.specs.Prelude.{ℕ, ◌+◌, Bool, false, cond, ◌||◌, List, [], ◌∷◌, ◌++◌, eqb, take, drop}
use Rattle.lists.specs.Lists.{◌∈◌}

infix 50 ◌⊆◌
abbrev pub ◌⊆◌ : List ℕ → List ℕ → Type 0
a ⊆ b = (n : ℕ) → n ∈ a → n ∈ b

abbrev pub Apart : List ℕ → List ℕ → Type 0
Apart a b = (n : ℕ) → n ∈ a → n ∈ b → ⊥

-- membership as a test
abbrev pub member : ℕ → List ℕ → Bool
member n [] = false
member n (x ∷ l) = eqb n x || member n l

-- c put in front of p, where p stands first
unfoldable pub insert_before : ℕ → ℕ → List ℕ → List ℕ
insert_before p c [] = []
insert_before p c (x ∷ l) = cond (eqb x p) (c ∷ x ∷ l) (x ∷ insert_before p c l)

-- b taken out, where it stands first
unfoldable pub remove : ℕ → List ℕ → List ℕ
remove b [] = []
remove b (x ∷ l) = cond (eqb x b) l (x ∷ remove b l)

-- what stands behind r
unfoldable pub behind : ℕ → List ℕ → List ℕ
behind r [] = []
behind r (x ∷ l) = cond (eqb x r) l (behind r l)

-- k elements from place a on replaced by s
abbrev pub replaced : {A : Type 0} → List A → ℕ → ℕ → List A → List A
replaced t a k s = take a t ++ (s ++ drop (a + k) t)

abbrev pub flat_back : (ℕ → List ℕ) → List ℕ → List ℕ
flat_back f [] = []
flat_back f (x ∷ l) = flat_back f l ++ f x
