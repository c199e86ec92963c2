-- A right board, lent to each call that takes one, stays right on every day of a table made fresh (02, U10).
use Prim.Native.Nat.{ℕ, ◌<◌}
use mathlib.Core.Bool.{Bool, cond, false, true}
use mathlib.Core.Path.{◌∙◌, ◌≡◌, ap, refl, subst, sym}
use mathlib.Core.List.Memᴰ
use mathlib.Core.List.{List, [], ◌++◌, ◌∷◌}
use lib.Dec.{eqb}
use lib.ListN.{length, replicate}
use Rattle.lists.specs.Lists.{◌∈◌}
use Rattle.boards.specs.Board.{board_bytes, board_of, posted_all}
use Rattle.boards.proofs.Posted.{posted_by_bib}
use Rattle.desk.specs.Calls.{Bundle, Call, Drop, Fork, Join, Entries, Looks, Mark, Query, Records, Sync, Update, Yield, call_on}
use Rattle.diagram.specs.Accepted.{AcceptedFrom}
use Rattle.diagram.specs.Closed.{ClosedShown}
use Rattle.diagram.specs.Steps.{Step, run, run_from}
use Rattle.diagram.proofs.Order.Closed.{only-in}
use Rattle.cells.specs.Cells.{brought, settled_own}
use Rattle.cells.specs.Decode.{cells}
use Rattle.entries.specs.Entries.{entry_at}
use Rattle.following.specs.Reached.{cells_after}
use Rattle.following.proofs.Follow.{same_cells}
use Rattle.following.proofs.Shown.{Quiet, lengthens, quiet-brings, run-shown}
use Rattle.entries.specs.Folded.{standing_of}
use Rattle.plain.specs.Record.{PlainDay, fresh_day}
use Rattle.plain.specs.Answers.{called, day_after, day_from}
use Rattle.plain.specs.Boards.{Brings, HasRight, Right, bib_of, update_of}
use Rattle.plain.specs.Taken.{step_of, steps_after, steps_of}
use Rattle.plain.proofs.Boards.{fresh_is_right, posted_same, right_after, right_length}
use Rattle.plain.proofs.Steps.{RanTo, all_accepted, did, same_day}
use Rattle.table.specs.Halves.{cells_of, high}
use Rattle.table.specs.Out.{table_bytes}
use Rattle.table.specs.Calls.{board_out, fresh_board, fresh_out}
use Rattle.table.specs.Served.{served}
use Rattle.table.proofs.Brings.{brings-nothing}
use Rattle.consistency.specs.Table.{calls}
use Rattle.consistency.specs.Boards.{KeepsBoard, RightThroughout, board_from, board_left, day_next, lent, lent_all}
use Rattle.consistency.proofs.Table.Stands.{Stands}
use Rattle.consistency.proofs.Table.Calls.{marks}
use Rattle.consistency.proofs.Table.Values.{shown_of}
use Rattle.consistency.proofs.Table.Follows.{call_same, fresh-stands, table_follows}

-- every day has a right board: the settled list of the cells that its steps reach is what it shows
pub has_right : HasRight
has_right single cs =
    let ss = steps_after single cs in
    let l = settled_own (cells_after single ss) in
    (board_of (λ bib. standing_of (day_after single cs).entries bib l), record { updates = l; shown = subst (λ y. ClosedShown y 0 l) (sym (same_day single cs)) (run-shown single ss (all_accepted single cs)); is = refl })

-- the settled list of a table that stands for a day
module _ (p : PlainDay) (t : List ℕ) (S : Stands p t) where
  cells_are : cells_of t ≡ cells_after p.single S.steps
  cells_are = ap cells S.low_is ∙ same_cells p.single S.steps S.ok

  shown-now : ClosedShown p.day 0 (settled_own (cells_of t))
  shown-now = subst (λ y. ClosedShown y 0 (settled_own (cells_of t))) (sym S.day_is) (subst (λ k. ClosedShown (run S.steps) 0 (settled_own k)) (sym cells_are) (run-shown p.single S.steps S.ok))

  -- what is shown was taken
  closed_low : (l : List ℕ) → ClosedShown p.day 0 l → (n : ℕ) → n ∈ l → n < p.day.updates
  closed_low l C n i = shown_of S.steps S.ok p.day S.day_is 0 n (only-in C n i)

-- a call, and a table that stands for the day after it
module _ (p : PlainDay) (t : List ℕ) (S : Stands p t) (c : Call ℕ) (t' : List ℕ) (S' : Stands (called p c).next t') where
  abbrev q : PlainDay
  q = (called p c).next

  abbrev ss : List Step
  ss = steps_of p c

  D : RanTo p q ss
  D = did p (marks p t S) c

  accepts : AcceptedFrom (run S.steps) ss
  accepts = subst (λ y. AcceptedFrom y ss) S.day_is D.accepts

  shown-then : ClosedShown (run_from (run S.steps) ss) 0 (settled_own (cells_of t'))
  shown-then = subst (λ y. ClosedShown y 0 (settled_own (cells_of t'))) (D.same ∙ ap (λ y. run_from y ss) S.day_is) (shown-now q t' S')

  longer : settled_own (cells_of t') ≡ settled_own (cells_of t) ++ brought (cells_of t) (cells_of t')
  longer = subst (λ k. settled_own (cells_of t') ≡ settled_own k ++ brought k (cells_of t')) (sym (cells_are p t S)) (lengthens p.single S.steps ss S.ok accepts (cells_of t') shown-then)

  quiet : Quiet ss → brought (cells_of t) (cells_of t') ≡ []
  quiet Q = subst (λ k. brought k (cells_of t') ≡ []) (sym (cells_are p t S)) (quiet-brings p.single S.steps ss S.ok accepts (cells_of t') shown-then Q)

  quiet-board : (board : List ℕ) → Quiet ss → board_out t t' board ≡ board
  unfolding board_out posted_all
  quiet-board board Q = rw (quiet Q)

  brings : (board after : List ℕ) → length board ≡ board_bytes → after ≡ board_out t t' board → Brings p q board after
  unfolding board_out
  brings board after l e = record {
    shown = settled_own (cells_of t);
    brought = brought (cells_of t) (cells_of t');
    before = shown-now p t S;
    now = subst (λ l. ClosedShown q.day 0 l) longer (shown-now q t' S');
    is = e ∙ posted_same (entry_at (high t')) q.entries (brought (cells_of t) (cells_of t')) board (λ n i. S'.entries_are n (closed_low q t' S' _ (shown-now q t' S') n (subst (λ l. n ∈ l) (sym longer) (Memᴰ.append_right (settled_own (cells_of t)) i))));
    by_bib = posted_by_bib (bib_of q) (update_of q) (brought (cells_of t) (cells_of t')) board l;
  }

  rights : (board after : List ℕ) → after ≡ board_out t t' board → Right p board → Right q after
  rights board after e R =
      let B = brings board after (right_length p board R) e in
      right_after p q board after B (λ n i. sym (D.kept n (closed_low p t S B.shown B.before n i))) R

-- a refused call is no step
quiet_if : (b : Bool) (ss : List Step) → Quiet ss → Quiet (cond b ss [])
quiet_if true ss Q = Q
quiet_if false ss Q = tt

module _ (p : PlainDay) (t : List ℕ) (S : Stands p t) (board : List ℕ) where
  next-stands : (q : Call (List ℕ)) → Stands (day_next p q board) (served t (lent board q)).table
  next-stands q = (call_same p t S (lent board q)).stands

  -- a call that takes no board brings nothing
  stays : (c : Call ℕ) (t' : List ℕ) → Stands (called p c).next t' → Quiet (step_of p c) → board ≡ board_out t t' board
  stays c t' S' Q = sym (quiet-board p t S c t' S' board (quiet_if (eqb (called p c).answer.code 0) (step_of p c) Q))

  left_is : (q : Call (List ℕ)) → board_left t q board ≡ board_out t (served t (lent board q)).table board
  left_is (Update c n k bib v) = stays (Update c n k bib v) _ (next-stands (Update c n k bib v)) tt
  left_is (Query c n bib) = stays (Query c n bib) _ (next-stands (Query c n bib)) tt
  left_is (Yield c other) = refl
  left_is (Fork n) = stays (Fork n) _ (next-stands (Fork n)) tt
  left_is (Join n m other) = refl
  left_is (Sync m other) = refl
  left_is (Mark n name) = stays (Mark n name) _ (next-stands (Mark n name)) tt
  left_is (Drop name) = stays (Drop name) _ (next-stands (Drop name)) tt
  left_is (Bundle c n (Records bytes) other) = refl
  left_is (Bundle c n (Entries es) other) = refl
  left_is (Looks l) = sym (brings-nothing t board)

  pub keeps-board : (q : Call (List ℕ)) → KeepsBoard p t q board
  keeps-board q =
      let c = call_on length (lent board q) in
      let t' = (served t (lent board q)).table in
      record {
        stays_right = rights p t S c t' (next-stands q) board (board_left t q board) (left_is q);
        brings = λ l. brings p t S c t' (next-stands q) board (board_left t q board) l (left_is q);
      }

right_from : (qs : List (Call (List ℕ))) (p : PlainDay) (t : List ℕ) → Stands p t → (board : List ℕ) → Right p board → Right (day_from p (calls (lent_all t board qs))) (board_from t board qs)
unfolding lent_all board_from day_from
right_from [] p t S board R = R
right_from (q ∷ qs) p t S board R = right_from qs (day_next p q board) (served t (lent board q)).table (next-stands p t S board q) (board_left t q board) ((keeps-board p t S board q).stays_right R)

-- "Fresh clears it"
pub cleared : (t : List ℕ) → length t ≡ table_bytes → (single : Bool) (board : List ℕ) → length board ≡ board_bytes → fresh_board t single board ≡ replicate board_bytes 0
unfolding fresh_board
cleared t h single board l = rw (l, (table_follows t h single).0)

pub right_throughout : RightThroughout
unfolding day_after
right_throughout t h single board l qs before rest place =
    right_from before (fresh_day single) (fresh_out t single (length board)).lent
    (subst (λ room. Stands (fresh_day single) (fresh_out t single room).lent) (sym l) (fresh-stands t h single))
    (fresh_board t single board)
    (subst (Right (fresh_day single)) (sym (cleared t h single board l)) (fresh_is_right single))
