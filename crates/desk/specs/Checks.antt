-- 01, "Codes of the desk": the table of codes, a row of checks for each call. "The checks run in ascending number, and the first that applies ends
-- the call." The plain day and the table are asked the same questions, and run the same rows.
use Rattle.std.specs.Prelude.{ℕ, Bool, cond, ◌||◌, List, [], ◌∷◌, ◌++◌}
use Rattle.lists.specs.Names.{Name}
use Rattle.updates.specs.Kinds.{bad_bib, bad_kind}
use Rattle.orderfile.specs.File.{is_bad_list}
use Rattle.boards.specs.Board.{is_wrong_board}
use Rattle.desk.specs.Calls.{Call, Update, Query, Yield, Fork, Join, Sync, Mark, Drop, Bundle, Looks, Show, Fill, Preview, Verify, Bill, is_wrong_batch}

-- a code, and whether it applies
pub record Check : Type 0 where
  pub code : ℕ
  pub applies : Bool

infix 70 ◌if◌
abbrev pub ◌if◌ : ℕ → Bool → Check
k if b = record { code = k; applies = b }

-- what the checks ask, c a tablet, n a joiner or any other box, m a joinee, by their numbers
pub record Tests : Type 0 where
  -- 1 "buffer length isn't 65,536, or a cell is out of its range"
  pub no_table : Bool
  -- 2 "tablet above 15"
  pub strange : (c : ℕ) → Bool
  -- 3 "box number not yet given out"
  pub never : (n : ℕ) → Bool
  -- 4 "box already a joinee"
  pub joined : (n : ℕ) → Bool
  -- 15, 02, U8: "off the line, for a fork of another box than 0 or a join into one on such a day"
  pub off_line : (n : ℕ) → Bool
  -- 15 of a mark, 02, U9: "Single-main days have no marks: mark gives 15"
  pub markless : Bool
  -- 16, 02, U9: "marked box"
  pub marked : (n : ℕ) → Bool
  -- 6 "the tablet's open transaction is on another box"
  pub elsewhere : (c n : ℕ) → Bool
  -- 7 "update, query: another tablet has the box busy. Fork, list, join: the box, or either box, is busy"
  pub by_other : (c n : ℕ) → Bool
  pub busy : (n : ℕ) → Bool
  -- 8 "the path from the tablet's last event is missing"
  pub stale : (c n : ℕ) → Bool
  -- 9 "4,096 updates taken"
  pub full : Bool
  -- 10, 02, U7: "exactly if 64 boxes are out"
  pub all_out : Bool
  -- 11 "joinee is box 0, is the joiner, its fork isn't seen, or its start is"
  pub unjoinable : (n m : ℕ) → Bool
  -- 12 "the listing's buffer is smaller than it needs"
  pub short : (n room : ℕ) → Bool
  -- 17, 02, U9: "bad name, for a mark: not four letters, or in use"
  pub bad_name : (name : Name) → Bool
  -- 18, 02, U9: "no such mark, for a drop"
  pub no_mark : (name : Name) → Bool

-- "Join: 1, 3, 4, 7, 11", those after 1, of either box; 02, U8: 15 "checked after 4", of the joiner; U9: 16 "checked right after 15", of either, "in
-- either role"
abbrev pub join_checks : Tests → ℕ → ℕ → List Check
join_checks q n m =
    3 if (q.never n || q.never m) ∷ 4 if (q.joined n || q.joined m) ∷ 15 if q.off_line n ∷ 16 if (q.marked n || q.marked m) ∷ 7 if (q.busy n || q.busy m)
    ∷ 11 if q.unjoinable n m ∷ []

-- "Update: 1 to 9. Query: 1 to 8 (of 5, the bib only). Yield: 1, 2. Fork: 1, 3, 4, 7, 10. .. List: 1, 3, 4, 7, 12." 02, U9: of a marked box 16, after 4; U10: 19 "checked
-- right after 1, for a bundle after 14"
abbrev pub checks : Tests → Call ℕ → List Check
checks q (Update c n k bib v) =
    1 if q.no_table ∷ 2 if q.strange c ∷ 3 if q.never n ∷ 4 if q.joined n ∷ 16 if q.marked n ∷ 5 if (bad_bib bib || bad_kind k) ∷ 6 if q.elsewhere c n ∷ 7 if q.by_other c n
    ∷ 8 if q.stale c n ∷ 9 if q.full ∷ []
checks q (Query c n bib) =
    1 if q.no_table ∷ 2 if q.strange c ∷ 3 if q.never n ∷ 4 if q.joined n ∷ 16 if q.marked n ∷ 5 if bad_bib bib ∷ 6 if q.elsewhere c n ∷ 7 if q.by_other c n ∷ 8 if q.stale c n ∷ []
checks q (Yield c room) = 1 if q.no_table ∷ 19 if is_wrong_board room ∷ 2 if q.strange c ∷ []
checks q (Fork n) = 1 if q.no_table ∷ 3 if q.never n ∷ 4 if q.joined n ∷ 15 if q.off_line n ∷ 7 if q.busy n ∷ 10 if q.all_out ∷ []
checks q (Join n m room) = 1 if q.no_table ∷ 19 if is_wrong_board room ∷ join_checks q n m
-- 02, U8: "has join's refusals for joiner 0"; box 0 is on the line, so that 15 never applies
checks q (Sync m room) = 1 if q.no_table ∷ 19 if is_wrong_board room ∷ join_checks q 0 m
-- 02, U9: "Mark has fork's refusals .. 17 and 18 are checked last"; "a drop can also give 1"
checks q (Mark n name) = 1 if q.no_table ∷ 3 if q.never n ∷ 4 if q.joined n ∷ 15 if q.markless ∷ 7 if q.busy n ∷ 10 if q.all_out ∷ 17 if q.bad_name name ∷ []
checks q (Drop name) = 1 if q.no_table ∷ 18 if q.no_mark name ∷ []
-- 02, U4: 14 "checked right after 1"; then those of its updates and of the yield, one by one
checks q (Bundle c n batch room) = 1 if q.no_table ∷ 14 if is_wrong_batch batch ∷ 19 if is_wrong_board room ∷ []
checks q (Looks (Show n room)) = 1 if q.no_table ∷ 3 if q.never n ∷ 4 if q.joined n ∷ 7 if q.busy n ∷ 12 if q.short n room ∷ []
-- 02, U1: "Checks: 1, 3, 4"
checks q (Looks (Fill n)) = 1 if q.no_table ∷ 3 if q.never n ∷ 4 if q.joined n ∷ []
-- 02, U6: "Refusals are those of the join, then 5 for the bib"
checks q (Looks (Preview n m bib)) = 1 if q.no_table ∷ join_checks q n m ++ (5 if bad_bib bib ∷ [])
-- 02, U13: 21 "checked after 1"
checks q (Looks (Verify file)) = 1 if q.no_table ∷ 21 if is_bad_list file ∷ []
-- 02, U14: "(checks: 1)"
checks q (Looks (Bill member)) = 1 if q.no_table ∷ []

-- the first check that applies ends the call with its refusal; where none does, the call ends as it does when taken
abbrev pub settle : {A : Type 0} → List Check → (ℕ → A) → A → A
settle [] refusal end = end
settle (k ∷ ks) refusal end = cond k.applies (refusal k.code) (settle ks refusal end)
