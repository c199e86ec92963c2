-- A record as a step. "Fields that a step doesn't use .. aren't looked at".
use Rattle.std.specs.Prelude.{ℕ, ◌+◌, ◌*◌, cond, List, eqb, leb, length, take, drop, get_or}
use Rattle.buffers.specs.Numbers.{number_at}
use Rattle.dayfile.specs.File.{offset}
use Rattle.dayfile.specs.declared.step.Step.{Step}
use Rattle.dayfile.specs.declared.step.Step.TheVariants.{Update, Query, Yield, Fork, Join, Unknown}

-- "Records are 12 bytes: step, tablet, box, second box (the joinee), bib (2 bytes), update kind, spare, v (4 bytes)"
abbrev pub step_byte : List ℕ → ℕ
step_byte p = get_or p 0 0

abbrev pub client : List ℕ → ℕ
client p = get_or p 1 0

abbrev pub revision : List ℕ → ℕ
revision p = get_or p 2 0

abbrev pub second : List ℕ → ℕ
second p = get_or p 3 0

abbrev pub bib : List ℕ → ℕ
bib p = number_at p 4 2

abbrev pub kind : List ℕ → ℕ
kind p = get_or p 6 0

abbrev pub v : List ℕ → ℕ
v p = number_at p 8 4

abbrev pub update_of : List ℕ → Step
update_of p = Update (client p) (revision p) (kind p) (bib p) (v p)

abbrev pub query_of : List ℕ → Step
query_of p = Query (client p) (revision p) (bib p)

-- "step (1 update, 2 query, 3 yield, 4 fork, 5 join)"; 13 "step byte not 1 to 5"
unfoldable pub step_of : List ℕ → Step
step_of p =
    cond (eqb (step_byte p) 1) (update_of p) (
    cond (eqb (step_byte p) 2) (query_of p) (
    cond (eqb (step_byte p) 3) (Yield (client p)) (
    cond (eqb (step_byte p) 4) (Fork (revision p)) (
    cond (eqb (step_byte p) 5) (Join (revision p) (second p))
    Unknown))))

-- the step of record i. Where the file has no whole record i, it is Unknown; a good file has every record under its count.
unfoldable pub step_at : List ℕ → ℕ → Step
step_at f i =
    cond (leb (offset f + 12 * i + 12) (length f)) (step_of (take 12 (drop (offset f + 12 * i) f)))
    Unknown
