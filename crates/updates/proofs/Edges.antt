-- Every row of 01's edges of one bib holds, by computing the table; so does what a query tells of each standing.
use Rattle.std.proofs.Common.{◌≡◌, [], ◌∷◌, refl}
use Rattle.updates.specs.Effect.{earliest, penalized, effect, state_of, value_in}
use Rattle.updates.specs.Applied.{applied}
use Rattle.updates.specs.Edges.{edges, computed, expected, shown}
use Rattle.updates.specs.declared.standing.Standing.TheVariants.{Struck, At}
use Rattle.updates.specs.declared.standing.State.TheVariants as state

pub edges_hold : computed edges ≡ expected edges
unfolding applied effect earliest penalized
edges_hold = refl

states_shown : shown (Struck ∷ At 0 ∷ At 9 ∷ []) ≡ (state.Struck, 0) ∷ (state.Neither, 0) ∷ (state.Timed, 9) ∷ []
unfolding state_of value_in
states_shown = refl
