-- 01, "Edges of a race day": those that speak of one bib alone, as one table of updates with the standing they give; and 02, U2 and U3.
use Rattle.std.specs.Prelude.{ℕ, List, [], ◌∷◌}
use Rattle.updates.specs.Applied.{Update, applied, fresh_standing}
use Rattle.updates.specs.Effect.{state_of, value_in}
use Rattle.updates.specs.declared.standing.Standing.{Standing}
use Rattle.updates.specs.declared.standing.Standing.TheVariants.{Struck, At}
use Rattle.updates.specs.declared.standing.State.{State}
use Rattle.updates.specs.declared.kind.Kind.{Kind}
use Rattle.updates.specs.declared.kind.Kind.TheVariants.{Time, Earliest, Penalty, Strike}

pub record Edge : Type 0 where
  pub updates : List Update
  pub standing : Standing

abbrev update : Kind → ℕ → Update
update kind v = record { kind = kind; v = v }

abbrev edge : List Update → Standing → Edge
edge updates standing = record { updates = updates; standing = standing }

abbrev pub edges : List Edge
edges =
    -- "A fresh table has 0 for every bib."
    edge [] (At 0)
    -- E5 "Penalty 4,294,967,295 on value 1 gives 0."
    ∷ edge (update Time 1 ∷ update Penalty 4294967295 ∷ []) (At 0)
    -- E6 "Earliest: 0 and 9 give 9; 9 and 0 give 9; 9 and 9 give 9."
    ∷ edge (update Time 0 ∷ update Earliest 9 ∷ []) (At 9)
    ∷ edge (update Time 9 ∷ update Earliest 0 ∷ []) (At 9)
    ∷ edge (update Time 9 ∷ update Earliest 9 ∷ []) (At 9)
    -- "the smaller of value and v", in either order
    ∷ edge (update Time 9 ∷ update Earliest 5 ∷ []) (At 5)
    ∷ edge (update Time 5 ∷ update Earliest 9 ∷ []) (At 5)
    -- "Strike makes it struck", whatever its v; "Earliest and Penalty leave it so; only Time lifts it", with 0 too
    ∷ edge (update Time 9 ∷ update Strike 5 ∷ []) Struck
    ∷ edge (update Strike 0 ∷ update Earliest 5 ∷ []) Struck
    ∷ edge (update Strike 0 ∷ update Penalty 5 ∷ []) Struck
    ∷ edge (update Strike 0 ∷ update Time 5 ∷ []) (At 5)
    ∷ edge (update Strike 0 ∷ update Time 0 ∷ []) (At 0)
    -- U3: "Penalty 5000, then Earliest 60000, gives 60000", and the Penalty alone 0; after a wrap to 0 a Penalty has no effect
    ∷ edge (update Penalty 5000 ∷ update Earliest 60000 ∷ []) (At 60000)
    ∷ edge (update Penalty 5000 ∷ []) (At 0)
    ∷ edge (update Time 1 ∷ update Penalty 4294967295 ∷ update Penalty 5 ∷ []) (At 0)
    ∷ edge (update Time 7 ∷ update Penalty 0 ∷ []) (At 7)
    ∷ []

abbrev pub computed : List Edge → List Standing
computed [] = []
computed (e ∷ es) = applied e.updates fresh_standing ∷ computed es

abbrev pub expected : List Edge → List Standing
expected [] = []
expected (e ∷ es) = e.standing ∷ expected es

-- what a query tells of each standing: its state and its value
abbrev pub shown : List Standing → List (State × ℕ)
shown [] = []
shown (s ∷ ss) = (state_of s, value_in s) ∷ shown ss
