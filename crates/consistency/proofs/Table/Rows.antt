-- The rows of the table of codes find the same on a table and on the day that it stands for.
use Prim.Native.Nat.{ℕ, ◌<◌, ◌*◌}
use mathlib.Core.Bool.{Bool, false, not, ◌&&◌, ◌||◌, not-not}
use mathlib.Core.Path.{◌≡◌, refl, ◌∙◌, ap}
use mathlib.Core.List.{List}
use lib.Dec.{eqb, ltb}
use lib.ListN.{length}
use Rattle.lists.proofs.Cases.{or-false}
use Rattle.desk.specs.Calls.{Call, Update, Query, Yield, Fork, Join, Sync, Mark, Drop, Bundle, Looks, Show, Fill, Preview, Verify, Bill}
use Rattle.desk.specs.Checks.{checks, join_checks}
use Rattle.desk.proofs.Checks.{Agree, agree_more, end, row}
use Rattle.cells.specs.Sizes.{clients}
use Rattle.cells.specs.Checks as Asked
use Rattle.diagram.specs.Day.{Day, meant, is_given}
use Rattle.diagram.specs.Checks as Day
use Rattle.plain.specs.Record.{PlainDay}
use Rattle.plain.specs.Answers as Plain
use Rattle.plain.proofs.Ends.{meaning}
use Rattle.table.specs.Halves.{cells_of, is_table}
use Rattle.table.specs.Calls as Table
use Rattle.following.specs.Numbers.{Number}
use Rattle.following.proofs.Cells.Passing as Clients
use Rattle.consistency.proofs.Table.Stands.{Stands, bytes-are, choice-is, is-table, numbers-are}
use Rattle.consistency.proofs.Table.Values.{same_order}

module _ (p : PlainDay) (t : List ℕ) (S : Stands p t) where
  abbrev y : Day
  y = p.day

  -- 1 and 2
  table : not (is_table t) ≡ false
  table = ap not (is-table p t S)

  client : (c : ℕ) → not (Asked.is_client c) ≡ Day.unknown_client c
  client c = Clients.client_is y (cells_of t) (bytes-are p t S).follow c

  known : (c : ℕ) → Day.unknown_client c ≡ false → c < clients
  known c e = Clients.known y (cells_of t) (bytes-are p t S).follow c e

  -- 3, and what is the same of a number that is given out
  given : (n : ℕ) → not (Asked.given_out (cells_of t) n) ≡ not (is_given y n)
  given n = ap not ((numbers-are p t S).same_given n)

  pub number : (n : ℕ) → not (is_given y n) ≡ false → Number y (cells_of t) n (meant y n)
  number n e = (numbers-are p t S).number n (meant y n) (meaning p n e)

  either : {a b c d : Bool} → a ≡ b → c ≡ d → (a || c) ≡ (b || d)
  either e f = rw (e, f)

  -- 15
  line : (n : ℕ) → Asked.off_line (cells_of t) n ≡ (p.single && not (eqb n 0))
  line n = ap (λ b. b && not (eqb n 0)) (choice-is p t S)

  join-row : (n m : ℕ) → Agree (join_checks (Table.asked t) n m) (join_checks (Plain.asked p) n m)
  join-row n m =
      row refl (either (given n) (given m)) λ e3.
      let g = or-false (not (is_given y n)) (not (is_given y m)) e3 in
      let a = number n g.0 in
      let b = number m g.1 in
      row refl (either a.same_joined b.same_joined) λ e4.
      let o = or-false (y.joined (meant y n)) (y.joined (meant y m)) e4 in
      row refl (line n) λ e15.
      row refl (either a.same_marked b.same_marked) λ e16.
      row refl (either a.same_busy b.same_busy) λ e7.
      row refl (ap not ((numbers-are p t S).same_joinable n m _ _ (meaning p n g.0) (meaning p m g.1) o.0 o.1) ∙ not-not (Day.not_joinable y (meant y n) (meant y m))) λ e11.
      end

  pub agree : (c : Call ℕ) → Agree (checks (Table.asked t) c) (checks (Plain.asked p) c)
  agree (Update c n k bib v) =
      row refl table λ e1.
      row refl (client c) λ e2.
      row refl (given n) λ e3.
      row refl (number n e3).same_joined λ e4.
      row refl (number n e3).same_marked λ e16.
      row refl refl λ e5.
      row refl ((number n e3).same_elsewhere c (known c e2)) λ e6.
      row refl ((number n e3).same_busy_by_other c) λ e7.
      row refl (((number n e3).out e4).same_stale c (known c e2)) λ e8.
      row refl (bytes-are p t S).follow.same_full λ e9.
      end
  agree (Query c n bib) =
      row refl table λ e1.
      row refl (client c) λ e2.
      row refl (given n) λ e3.
      row refl (number n e3).same_joined λ e4.
      row refl (number n e3).same_marked λ e16.
      row refl refl λ e5.
      row refl ((number n e3).same_elsewhere c (known c e2)) λ e6.
      row refl ((number n e3).same_busy_by_other c) λ e7.
      row refl (((number n e3).out e4).same_stale c (known c e2)) λ e8.
      end
  agree (Yield c room) = row refl table λ e1. row refl refl λ e19. row refl (client c) λ e2. end
  agree (Fork n) =
      row refl table λ e1.
      row refl (given n) λ e3.
      row refl (number n e3).same_joined λ e4.
      row refl (line n) λ e15.
      row refl (number n e3).same_busy λ e7.
      row refl (bytes-are p t S).follow.same_left λ e10.
      end
  agree (Join n m room) = row refl table λ e1. row refl refl λ e19. join-row n m
  agree (Sync m room) = row refl table λ e1. row refl refl λ e19. join-row 0 m
  agree (Mark n name) =
      row refl table λ e1.
      row refl (given n) λ e3.
      row refl (number n e3).same_joined λ e4.
      row refl (choice-is p t S) λ e15.
      row refl (number n e3).same_busy λ e7.
      row refl (bytes-are p t S).follow.same_left λ e10.
      row refl ((numbers-are p t S).same_bad_name name) λ e17.
      end
  agree (Drop name) = row refl table λ e1. row refl ((numbers-are p t S).same_no_mark name) λ e18. end
  agree (Bundle c n batch room) = row refl table λ e1. row refl refl λ e14. row refl refl λ e19. end
  agree (Looks (Show n room)) =
      row refl table λ e1.
      row refl (given n) λ e3.
      row refl (number n e3).same_joined λ e4.
      row refl (number n e3).same_busy λ e7.
      row refl (ap (λ z. ltb room (12 * length z)) (same_order p t S n e3 e4)) λ e12.
      end
  agree (Looks (Fill n)) = row refl table λ e1. row refl (given n) λ e3. row refl (number n e3).same_joined λ e4. end
  agree (Looks (Preview n m bib)) = row refl table λ e1. agree_more (join-row n m) _ _ (λ P. row refl refl λ e5. end)
  agree (Looks (Verify file)) = row refl table λ e1. row refl refl λ e21. end
  agree (Looks (Bill member)) = row refl table λ e1. end
