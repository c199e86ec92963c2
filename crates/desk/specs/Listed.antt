-- 00, "its number from the list": the codes of each call. The claims about refusals go by it (crates consistency and courses); no call does, and `rows`
-- (proofs/Checks) proves that each list has the numbers of the call's row of checks, and no other.
use Rattle.std.specs.Prelude.{ℕ, List, [], ◌∷◌}
use Rattle.desk.specs.Calls.{Call, Update, Query, Yield, Fork, Join, Sync, Mark, Drop, Bundle, Looks, Show, Fill, Preview, Verify, Bill}

-- the numbers of its row; of a bundle also those of its updates
abbrev pub codes_for : {S : Type 0} → Call S → List ℕ
codes_for (Update c n k bib v) = 1 ∷ 2 ∷ 3 ∷ 4 ∷ 16 ∷ 5 ∷ 6 ∷ 7 ∷ 8 ∷ 9 ∷ []
codes_for (Query c n bib) = 1 ∷ 2 ∷ 3 ∷ 4 ∷ 16 ∷ 5 ∷ 6 ∷ 7 ∷ 8 ∷ []
codes_for (Yield c board) = 1 ∷ 19 ∷ 2 ∷ []
codes_for (Fork n) = 1 ∷ 3 ∷ 4 ∷ 15 ∷ 7 ∷ 10 ∷ []
codes_for (Join n m board) = 1 ∷ 19 ∷ 3 ∷ 4 ∷ 15 ∷ 16 ∷ 7 ∷ 11 ∷ []
codes_for (Sync m board) = 1 ∷ 19 ∷ 3 ∷ 4 ∷ 15 ∷ 16 ∷ 7 ∷ 11 ∷ []
codes_for (Mark n name) = 1 ∷ 3 ∷ 4 ∷ 15 ∷ 7 ∷ 10 ∷ 17 ∷ []
codes_for (Drop name) = 1 ∷ 18 ∷ []
codes_for (Bundle c n batch board) = 1 ∷ 14 ∷ 19 ∷ 2 ∷ 3 ∷ 4 ∷ 16 ∷ 5 ∷ 6 ∷ 7 ∷ 8 ∷ 9 ∷ []
codes_for (Looks (Show n sheet)) = 1 ∷ 3 ∷ 4 ∷ 7 ∷ 12 ∷ []
codes_for (Looks (Fill n)) = 1 ∷ 3 ∷ 4 ∷ []
codes_for (Looks (Preview n m bib)) = 1 ∷ 3 ∷ 4 ∷ 15 ∷ 16 ∷ 7 ∷ 11 ∷ 5 ∷ []
codes_for (Looks (Verify file)) = 1 ∷ 21 ∷ []
codes_for (Looks (Bill member)) = 1 ∷ []
