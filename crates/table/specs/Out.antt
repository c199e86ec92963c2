-- What a call of the table gives: its answer, and the lent bytes as it leaves them.
use Rattle.std.specs.Prelude.{ℕ, List}
use Rattle.updates.specs.declared.standing.State.{State}

-- "a lent buffer of exactly 65,536 bytes"
abbrev pub table_bytes : ℕ
table_bytes = 65536

-- 02, U2: a query has a state, any other call neither. The bytes lent to be written: the table, or a list's sheet
pub record Out : Type 0 where
  pub code : ℕ
  pub state : State
  pub value : ℕ
  pub lent : List ℕ

-- of a verify and of a bill: nothing is lent to be written
pub record Answer : Type 0 where
  pub code : ℕ
  pub value : ℕ

-- 02, U1: of a fill
pub record Level : Type 0 where
  pub code : ℕ
  pub own : ℕ
  pub total : ℕ

-- 02, U6: of a preview
pub record Prospect : Type 0 where
  pub code : ℕ
  pub state : State
  pub value : ℕ
  pub gain : ℕ
