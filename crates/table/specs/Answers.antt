-- No claim rests on this file: it serves the definitions of the calls. How a call ends: "A refusal gives value 0; table and sheet keep every byte."
use Rattle.std.specs.Prelude.{ℕ, cond, List, eqb}
use Rattle.updates.specs.declared.standing.Standing.{Standing}
use Rattle.updates.specs.declared.standing.State.TheVariants.{Neither}
use Rattle.updates.specs.Effect.{state_of, value_in}
use Rattle.table.specs.Out.{Out}

abbrev pub refused : List ℕ → ℕ → Out
refused lent code = record { code = code; state = Neither; value = 0; lent = lent }

abbrev pub taken : List ℕ → ℕ → Out
taken lent value = record { code = 0; state = Neither; value = value; lent = lent }

-- a query's end: "the state .. with the value, 0 if struck"
abbrev pub answered : List ℕ → Standing → Out
answered lent s = record { code = 0; state = state_of s; value = value_in s; lent = lent }

-- goes on with the bytes that a call left, where it was taken; a refusal ends it
abbrev pub after_taken : Out → (List ℕ → Out) → Out
after_taken o rest = cond (eqb o.code 0) (rest o.lent) o
