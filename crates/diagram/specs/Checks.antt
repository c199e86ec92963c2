-- 01, "Codes of the desk": each check that the day alone decides, as a test that is true where its code applies.
-- Code 3 is `is_given`, code 4 the day's `joined`, and code 18 `is_named`; 5, 12, 14 and 15 need what this crate does not know.
use Rattle.std.specs.Prelude.{ℕ, Bool, true, false, not, ◌||◌, ◌&&◌, eqb, ltb}
use Rattle.std.proofs.Math.Option.{Option, none, some}
use Rattle.lists.specs.Sums.{any_below}
use Rattle.lists.specs.Names.{Name, four_letters}
use Rattle.diagram.specs.Sizes.{revision_limit, client_limit, update_limit}
use Rattle.diagram.specs.Diagram.{Diagram}
use Rattle.diagram.specs.Leads.{leads}
use Rattle.diagram.specs.Day.{Day, is_named, out_count}

-- 2: "tablet above 15"
unfoldable pub unknown_client : ℕ → Bool
unknown_client c = not (ltb c client_limit)

-- whether there is one at all: an open transaction, a name
abbrev pub is_some : {A : Type 0} → Option A → Bool
is_some none = false
is_some (some a) = true

-- whether a client's open transaction, if any, is on revision r
abbrev pub is_on : Day → Option ℕ → ℕ → Bool
is_on y none r = false
is_on y (some t) r = eqb (y.transaction t).revision r

-- 6: "the tablet's open transaction is on another box"
unfoldable pub open_elsewhere : Day → ℕ → ℕ → Bool
open_elsewhere y c r = is_some (y.open_by c) && not (is_on y (y.open_by c) r)

-- 7: "update, query: another tablet has the box busy"
unfoldable pub busy_by_other : Day → ℕ → ℕ → Bool
busy_by_other y c r = any_below client_limit (λ o. not (eqb o c) && is_on y (y.open_by o) r)

-- 7: "Fork, list, join: the box, or either box, is busy"
unfoldable pub busy : Day → ℕ → Bool
busy y r = any_below client_limit (λ o. is_on y (y.open_by o) r)

-- 8: "the path from the tablet's last event is missing"; a client without events may start anywhere
abbrev pub missing : Diagram → Option ℕ → ℕ → Bool
missing d none x = false
missing d (some e) x = not (leads d e x)

unfoldable pub stale : Day → ℕ → ℕ → Bool
stale y c r = missing y.diagram (y.last_event c) (y.terminal r)

-- 9: "4,096 updates taken"
unfoldable pub log_full : Day → Bool
log_full y = not (ltb y.updates update_limit)

-- 10, 02, U7: "exactly if 64 boxes are out"
unfoldable pub none_left : Day → Bool
none_left y = not (ltb (out_count y) revision_limit)

-- 11: "joinee is box 0, is the joiner, its fork isn't seen, or its start is"
unfoldable pub not_joinable : Day → ℕ → ℕ → Bool
not_joinable y a b =
    eqb b 0 || (eqb b a || (not (leads y.diagram (y.fork_of b) (y.terminal a)) || leads y.diagram (y.start_of b) (y.terminal a)))

-- 16, 02, U9: "marked box"
unfoldable pub marked : Day → ℕ → Bool
marked y r = is_some (y.mark r)

-- 17: "bad name, for a mark: not four letters, or in use"
unfoldable pub bad_name : Day → Name → Bool
bad_name y n = not (four_letters n) || is_named y n
