-- 02, U10, the announcer's board: "a second lent buffer of 5,000 bytes: per bib a byte, 1 if struck and else 0, then the value in 4 bytes, least
-- significant first". It knows no day and no table.
use Rattle.std.specs.Prelude.{ℕ, zero, suc, ◌*◌, Bool, cond, not, List, [], ◌∷◌, ◌++◌, eqb, ltb, get_or, take, drop}
use Rattle.lists.specs.Arranged.{replaced}
use Rattle.buffers.specs.Numbers.{number_at, word}
use Rattle.updates.specs.Effect.{effect}
use Rattle.updates.specs.Applied.{Update}
use Rattle.updates.specs.declared.standing.Standing.{Standing}
use Rattle.updates.specs.declared.standing.Standing.TheVariants.{Struck, At}
use Rattle.boards.specs.declared.check.BoardCheck.{BoardCheck}
use Rattle.boards.specs.declared.check.BoardCheck.TheVariants.{Sound, Wrong}

abbrev pub board_bytes : ℕ
board_bytes = 5000

-- 19 "wrong board, length other than 5,000"
abbrev pub is_wrong_board : ℕ → Bool
is_wrong_board n = not (eqb n board_bytes)

unfoldable pub board_check : ℕ → BoardCheck
board_check n = cond (is_wrong_board n) Wrong Sound

-- bibs 0 to 999 have an entry
abbrev pub bibs : ℕ
bibs = 1000

-- a bib's entry: "a byte, 1 if struck and else 0, then the value in 4 bytes", "value 0 if struck"
unfoldable pub shown : Standing → List ℕ
shown Struck = 1 ∷ word 0
shown (At value) = 0 ∷ word value

-- the entries of bibs 0 to n - 1
unfoldable pub entries_to : (ℕ → Standing) → ℕ → List ℕ
entries_to s zero = []
entries_to s (suc n) = entries_to s n ++ shown (s n)

-- the board worked out afresh, from how each bib stands
unfoldable pub board_of : (ℕ → Standing) → List ℕ
board_of s = entries_to s bibs

-- a bib's five bytes on any board
abbrev pub entry_of : List ℕ → ℕ → List ℕ
entry_of board bib = take 5 (drop (5 * bib) board)

-- "struck if its byte is 1, else its value", whatever the five bytes are
unfoldable pub standing_in : List ℕ → Standing
standing_in entry = cond (eqb (get_or entry 0 0) 1) Struck (At (number_at entry 1 4))

-- "the entry found"
abbrev pub found : List ℕ → ℕ → Standing
found board bib = standing_in (entry_of board bib)

-- "the entry is written anew"; a bib above 999 has none
unfoldable pub wrote : List ℕ → ℕ → Standing → List ℕ
wrote board bib s = cond (ltb bib bibs) (replaced board (5 * bib) 5 (shown s)) board

-- an update "applied .. to the entry found .. and the entry is written anew"
abbrev pub posted : List ℕ → ℕ → Update → List ℕ
posted board bib u = wrote board bib (effect u.kind u.v (found board bib))

-- "the updates brought are applied in listed order": each number has a bib and an update
unfoldable pub posted_all : (ℕ → ℕ) → (ℕ → Update) → List ℕ → List ℕ → List ℕ
posted_all bib_of update [] board = board
posted_all bib_of update (n ∷ ns) board = posted_all bib_of update ns (posted board (bib_of n) (update n))
