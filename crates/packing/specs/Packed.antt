-- What an export returns: the answer in one number, beside the lent bytes as the call leaves them.
use Rattle.std.specs.Prelude.{ℕ, ◌+◌, ◌*◌, List}
use Rattle.updates.specs.declared.standing.State.{State}
use Rattle.updates.specs.declared.standing.State.TheVariants.{Neither, Timed, Struck}
use Rattle.desk.specs.Calls as Desk
use Rattle.table.specs.Out.{Answer, Level, Out, Prospect}

-- the value in the lower 32 bits, the code in the eight above them
abbrev pub packed : ℕ → ℕ → ℕ
packed code value = code * 4294967296 + value

-- 02, U2: the numbers of a bib's states, of other calls than a query 0
unfoldable pub state_number : State → ℕ
state_number Neither = 0
state_number Timed = 1
state_number Struck = 2

-- the state above the code, in bits 40 and 41
abbrev pub packed_state : ℕ → State → ℕ → ℕ
packed_state code state value = state_number state * 1099511627776 + packed code value

-- 02, U6: a preview's gain above the state, in bits 48 to 63
abbrev pub packed_gain : ℕ → State → ℕ → ℕ → ℕ
packed_gain code state value gain = gain * 281474976710656 + packed_state code state value

pub record Returned : Type 0 where
  pub result : ℕ
  pub lent : List ℕ

-- a result, and the bytes at exit
abbrev pub returned : ℕ → List ℕ → Returned
returned result lent = record { result = result; lent = lent }

-- an answer of 01 as its export returns it
unfoldable pub exported : Out → Returned
exported o = returned (packed_state o.code o.state o.value) o.lent

-- the code and value of a verify and of a bill: nothing is lent to be written
unfoldable pub exported_answer : Answer → ℕ
exported_answer a = packed a.code a.value

-- a fill's two numbers, 16 bits each: the table's above the revision's own
unfoldable pub exported_level : Level → ℕ
exported_level f = packed f.code (f.total * 65536 + f.own)

unfoldable pub exported_prospect : Prospect → ℕ
exported_prospect p = packed_gain p.code p.state p.value p.gain

-- 02, U12: of a call on four tables a fill's total stands above its value, in bits 16 to 31; of other calls it is 0
unfoldable pub packed_reply : Desk.Answer (List ℕ) → ℕ
packed_reply a = packed_gain a.code a.state (a.total * 65536 + a.value) a.gain
