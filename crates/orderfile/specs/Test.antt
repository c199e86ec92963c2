-- No claim rests on this file: it serves the definitions of the calls. `Fits` as a test that computes; that the two agree is `fits-exactly` (proofs/Exactly).
use Rattle.std.specs.Prelude.{ℕ, suc, Bool, true, cond, not, ◌&&◌, List, [], ◌∷◌, eqb, ltb, length}
use Rattle.lists.specs.Sums.{any_below}
use Rattle.lists.specs.Arranged.{member}

-- no number from `taken` on
unfoldable pub no_other : ℕ → List ℕ → Bool
no_other taken [] = true
no_other taken (n ∷ ns) = ltb n taken && no_other taken ns

unfoldable pub none_twice : List ℕ → Bool
none_twice [] = true
none_twice (n ∷ ns) = not (member n ns) && none_twice ns

-- as many numbers as updates, none twice and none too high: so each is there
unfoldable pub is_complete : ℕ → List ℕ → Bool
is_complete taken ns = eqb (length ns) taken && (no_other taken ns && none_twice ns)

-- the place of u, the first being k; 0 where it is not there
unfoldable pub place_from : ℕ → List ℕ → ℕ → ℕ
place_from k [] u = 0
place_from k (n ∷ ns) u = cond (eqb u n) k (place_from (suc k) ns u)

abbrev pub place_in : List ℕ → ℕ → ℕ
place_in ns = place_from 1 ns

-- the places of a list's numbers rise, all above `last`
unfoldable pub rises : (ℕ → ℕ) → ℕ → List ℕ → Bool
rises place last [] = true
rises place last (u ∷ l) = ltb last (place u) && rises place (place u) l

-- box r is out, and its list is out of order
abbrev pub wrong : (ℕ → Bool) → (ℕ → List ℕ) → (ℕ → ℕ) → ℕ → Bool
wrong out listed place r = out r && not (rises place 0 (listed r))

-- of no box below a number
unfoldable pub in_order : ℕ → (ℕ → Bool) → (ℕ → List ℕ) → (ℕ → ℕ) → Bool
in_order boxes out listed place = not (any_below boxes (wrong out listed place))

unfoldable pub fits : ℕ → ℕ → (ℕ → Bool) → (ℕ → List ℕ) → List ℕ → Bool
fits taken boxes out listed ns = is_complete taken ns && in_order boxes out listed (place_in ns)
