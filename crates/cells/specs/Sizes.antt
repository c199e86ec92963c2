-- 01, "Sizes of a day": "A table has 64 boxes, 16 tablets, .. and 4,096 updates at most". No cell's range depends on the day.
use Rattle.std.specs.Prelude.{ℕ}

-- revision numbers are 0 to 63 ("box numbers 0 to 63")
abbrev pub revisions : ℕ
revisions = 64

-- client numbers are 0 to 15 ("tablets 0 to 15")
abbrev pub clients : ℕ
clients = 16

-- update numbers are 0 to 4,095
abbrev pub updates : ℕ
updates = 4096

-- the bytes of the table that keep the revisions
abbrev pub lower_bytes : ℕ
lower_bytes = 40960

-- the main revision ("Box 0, the main box")
abbrev pub main : ℕ
main = 0

-- in the cell of a client's open transaction: there is none
abbrev pub closed : ℕ
closed = 64

-- the states of a revision: never given out, out, joined ("handed in") or dropped, marked, and out
abbrev pub state_never : ℕ
state_never = 0

abbrev pub state_out : ℕ
state_out = 1

abbrev pub state_joined : ℕ
state_joined = 2

abbrev pub state_marked : ℕ
state_marked = 3
