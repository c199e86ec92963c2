-- No claim rests on this file: it serves the code.
-- What each code asks of the cells: 01, "Codes of the desk". Each answer follows from the cells alone.
use Rattle.std.specs.Prelude.{ℕ, zero, suc, Bool, cond, not, ◌&&◌, ◌||◌, eqb, ltb}
use Rattle.lists.specs.Names.{Name, four_letters, same_name}
use Rattle.lists.specs.Sums.{any_below}
use Rattle.cells.specs.Sizes.{revisions, clients, updates, main, closed, state_never, state_joined, state_marked}
use Rattle.cells.specs.Cells.{Cells}

-- a client number; else 2 applies, "tablet above 15"
abbrev pub is_client : ℕ → Bool
is_client n = ltb n clients

-- a number given out; else 3 applies, "box number not yet given out"
abbrev pub given_out : Cells → ℕ → Bool
given_out k r = ltb r revisions && not (eqb (k.state r) state_never)

-- 4 "box already a joinee"
abbrev pub joined : Cells → ℕ → Bool
joined k r = eqb (k.state r) state_joined

-- 15, 02, U8: "off the line, for a fork of another box than 0 or a join into one on such a day"; for a mark `single` alone: "Single-main days have no marks"
abbrev pub off_line : Cells → ℕ → Bool
off_line k r = k.single && not (eqb r main)

-- 6 "the tablet's open transaction is on another box"
abbrev pub open_elsewhere : Cells → ℕ → ℕ → Bool
open_elsewhere k c r = not (eqb (k.opened c) closed) && not (eqb (k.opened c) r)

-- 7 "the box, or either box, is busy"
abbrev pub busy : Cells → ℕ → Bool
busy k r = any_below clients (λ x. eqb (k.opened x) r)

-- 7 for update and query: "another tablet has the box busy"
abbrev pub busy_by_other : Cells → ℕ → ℕ → Bool
busy_by_other k c r = any_below clients (λ x. not (eqb x c) && eqb (k.opened x) r)

-- 8 "the path from the tablet's last event is missing"
abbrev pub stale : Cells → ℕ → ℕ → Bool
stale k c r = not (k.caught c r)

-- 9 "4,096 updates taken"
abbrev pub log_full : Cells → Bool
log_full k = not (ltb k.updates updates)

-- 10, 02, U7: "exactly if 64 boxes are out"
abbrev pub none_left : Cells → Bool
none_left k = not (ltb k.out revisions)

-- may be joined; else 11 applies, "joinee is box 0, is the joiner, its fork isn't seen, or its start is"
abbrev pub joinable : Cells → ℕ → ℕ → Bool
joinable k a b = (not (eqb b main) && not (eqb a b)) && k.seen a b

-- 16, 02, U9: "marked box"
abbrev pub is_mark : Cells → ℕ → Bool
is_mark k r = eqb (k.state r) state_marked

abbrev pub bears : Cells → Name → ℕ → Bool
bears k n r = is_mark k r && same_name (k.name r) n

-- of the numbers 1 to m the last whose mark bears the name, or 64 where there is none
unfoldable pub bearer_below : Cells → Name → ℕ → ℕ
bearer_below k n zero = revisions
bearer_below k n (suc m) = cond (bears k n (suc m)) (suc m) (bearer_below k n m)

-- the number of the mark that bears the name. The main revision is no mark
abbrev pub bearer : Cells → Name → ℕ
bearer k n = bearer_below k n 63

-- 18 "no such mark"
abbrev pub no_such_mark : Cells → Name → Bool
no_such_mark k n = not (ltb (bearer k n) revisions)

-- 17 "not four letters, or in use"
abbrev pub bad_name : Cells → Name → Bool
bad_name k n = not (four_letters n) || not (no_such_mark k n)
