-- Of the claims only `VerdictsFit` (crate consistency, a verify on any buffer) rests on this file; else it serves the code.
-- The order of a revision: the updates visible at its terminal, as 01 lists them: "in the order in which the effects apply on
-- the way from the root". Total on every content; in range, at most 4,096 entries of at most 64 lists of at most 4,096.
use Rattle.std.specs.Prelude.{ℕ, Bool, cond, List, ◌++◌, eqb, take, drop}
use Rattle.lists.specs.Lists.{keep}
use Rattle.lists.specs.Arranged.{behind, flat_back}
use Rattle.cells.specs.Sizes.{updates, main}
use Rattle.cells.specs.Cells.{Cells, own, outs, flagged}

-- of a list its first b entries, and of the others those that pass
abbrev pub picks : ℕ → (ℕ → Bool) → List ℕ → List ℕ
picks b f l = take b l ++ keep f (drop b l)

-- how many of the first entries of d's own list r inherited by its base count
abbrev pub base_in : Cells → ℕ → ℕ → ℕ
base_in k r d = cond (eqb d main) (k.base r) 0

-- of the own list of d what r inherited, in order
abbrev pub inherited : Cells → ℕ → ℕ → List ℕ
inherited k r d = picks (base_in k r d) (flagged k r) (own k d)

-- what r inherited from each revision left of it, from the left; then its own list
unfoldable pub order : Cells → ℕ → List ℕ
order k r = take updates (flat_back (inherited k r) (behind r (outs k)) ++ own k r)
