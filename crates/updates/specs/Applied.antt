-- Several updates of one bib, in order, and those among some numbers.
use Rattle.std.specs.Prelude.{ℕ, cond, List, [], ◌∷◌, ◌==◌}
use Rattle.updates.specs.Effect.{effect}
use Rattle.updates.specs.declared.kind.Kind.{Kind}
use Rattle.updates.specs.declared.standing.Standing.{Standing}
use Rattle.updates.specs.declared.standing.Standing.TheVariants.{At}

pub record Update : Type 0 where
  pub kind : Kind
  pub v : ℕ

-- 01, "Sizes of a day": "0 means no time. A fresh table has 0 for every bib."
abbrev pub fresh_standing : Standing
fresh_standing = At 0

-- the standing after the updates, the first of the list first
unfoldable pub applied : List Update → Standing → Standing
applied [] s = s
applied (u ∷ us) s = applied us (effect u.kind u.v s)

-- the updates of one bib among some numbers, in their order: each number has a bib and an update
abbrev pub of_bib : (ℕ → ℕ) → (ℕ → Update) → ℕ → List ℕ → List Update
of_bib bibs updates bib [] = []
of_bib bibs updates bib (n ∷ ns) = cond (bibs n == bib) (updates n ∷ of_bib bibs updates bib ns) (of_bib bibs updates bib ns)
