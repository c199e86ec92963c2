-- What one update makes of a bib's standing: 01, "Updates (each total)", amended by 02, U2: "A struck bib stays struck", and U3: "No
-- penalty without a time".
use Rattle.std.specs.Prelude.{ℕ, ◌+◌, ◌%◌, cond, ◌==◌, nat_lt}
use Rattle.updates.specs.declared.kind.Kind.{Kind}
use Rattle.updates.specs.declared.kind.Kind.TheVariants.{Time, Earliest, Penalty, Strike}
use Rattle.updates.specs.declared.standing.Standing.{Standing}
use Rattle.updates.specs.declared.standing.Standing.TheVariants.{Struck, At}
use Rattle.updates.specs.declared.standing.State.{State}
use Rattle.updates.specs.declared.standing.State.TheVariants as state

-- "the smaller of value and v among those that aren't 0; 0 if both are 0"
unfoldable pub earliest : ℕ → ℕ → ℕ
earliest value v = cond (value == 0) v (cond (v == 0) value (cond (nat_lt value v) value v))

-- "A Penalty on value 0 has no effect; on any other value it adds as before, and may still wrap to 0."
unfoldable pub penalized : ℕ → ℕ → ℕ
penalized value v = cond (value == 0) 0 ((value + v) % 4294967296)

-- "Strike makes it struck; Earliest and Penalty leave it so; only Time lifts it." Of a bib that is not struck: "Time: the value becomes
-- v", "Earliest: ..", "Penalty: v is added modulo 4,294,967,296", on a value that isn't 0
unfoldable pub effect : Kind → ℕ → Standing → Standing
effect Time v s = At v
effect Earliest v Struck = Struck
effect Earliest v (At value) = At (earliest value v)
effect Penalty v Struck = Struck
effect Penalty v (At value) = At (penalized value v)
effect Strike v s = Struck

-- "a bib is struck or, if not, timed exactly if its value isn't 0"
unfoldable pub state_of : Standing → State
state_of Struck = state.Struck
state_of (At value) = cond (value == 0) state.Neither state.Timed

-- "with the value, 0 if struck"
unfoldable pub value_in : Standing → ℕ
value_in Struck = 0
value_in (At value) = value
