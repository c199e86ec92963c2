-- A course's board stays right, through calls that the other courses made too.
use Prim.Native.Nat.{ℕ}
use mathlib.Core.Bool.{Bool, true, cond}
use mathlib.Core.Path.{◌≡◌, refl, sym, ◌∙◌, ap, subst}
use mathlib.Core.List.{List, [], ◌∷◌}
use native.Mathlib.Omega.{arith}
use lib.ListN.{length}
use borrow.Author.Tests.{eqb-true, not-false}
use Rattle.lists.proofs.Cases.{cases}
use Rattle.boards.specs.Board.{board_bytes, is_wrong_board}
use Rattle.desk.specs.Calls.{Call, Update, Query, Yield, Fork, Join, Sync, Mark, Drop, Bundle, Looks, call_on}
use Rattle.plain.specs.Record.{PlainDay, fresh_day}
use Rattle.plain.specs.Answers.{called}
use Rattle.plain.specs.Boards.{Right}
use Rattle.plain.proofs.Boards.{fresh_is_right}
use Rattle.table.specs.Out.{Out}
use Rattle.table.specs.Calls.{fresh_board}
use Rattle.table.specs.Served.{Served, served}
use Rattle.table.specs.Lent.{board_lent}
use Rattle.consistency.specs.Boards.{lent, takes_board}
use Rattle.consistency.proofs.Boards.{cleared, keeps-board}
use Rattle.consistency.proofs.Refusals.{still}
use Rattle.consistency.proofs.Table.Stands.{Stands}
use Rattle.card.specs.Courses.{Ask, Fresh, Plain, turned_away}
use Rattle.courses.specs.Heard.{Heard}
use Rattle.courses.specs.Days.{Got, Nothing, Told, day_to, entered_all, on_paper, told_alone, told_called, told_to}
use Rattle.courses.specs.Claims.{Alone}
use Rattle.courses.specs.Boards.{BoardsStayRight, OneBoard, board_asked, board_next, board_to, takes}
use Rattle.courses.proofs.Told.{courses-alone}
use Rattle.courses.proofs.Made.{fresh-taken, fresh-wrong, made-stands}
use Rattle.courses.proofs.Days.{alone-after, made_first, told_same}

-- a call that is lent this board
lent_is : (board : List ℕ) (q : Call (List ℕ)) → (takes_board q ≡ true → board_lent q ≡ board) → lent board q ≡ q
lent_is board (Update c n k bib v) h = refl
lent_is board (Query c n bib) h = refl
lent_is board (Yield c other) h = ap (Yield c) (sym (h refl))
lent_is board (Fork n) h = refl
lent_is board (Join n m other) h = ap (Join n m) (sym (h refl))
lent_is board (Sync m other) h = ap (Sync m) (sym (h refl))
lent_is board (Mark n name) h = refl
lent_is board (Drop name) h = refl
lent_is board (Bundle c n batch other) h = ap (Bundle c n batch) (sym (h refl))
lent_is board (Looks l) h = refl

-- the board after a call that is served so
abbrev leaves : Ask → Served → List ℕ → List ℕ
leaves a g board = cond (takes a) g.board board

away_board : (code : ℕ) (t : List ℕ) (a : Ask) (board : List ℕ) → (takes a ≡ true → board_asked a ≡ board) → leaves a (turned_away code t a) board ≡ board
away_board code t (Fresh single other) board h = h refl
away_board code t (Plain q) board h = cases (takes_board q) (λ e. rw e (h e)) (λ e. rw e)

module _ (p : PlainDay) (t : List ℕ) (S : Stands p t) (board : List ℕ) (R : Right p board) where
  right-call : (q : Call (List ℕ)) → (takes_board q ≡ true → board_lent q ≡ board) → Right (called p (call_on length q)).next (leaves (Plain q) (served t q) board)
  right-call q h = subst (λ x. Right (called p (call_on length x)).next (cond (takes_board q) (served t x).board board)) (lent_is board q h) ((keeps-board p t S board q).stays_right R)

  right-fresh : (single : Bool) → Right (told_called p (Fresh single (length board)) Nothing).next (fresh_board t single board)
  unfolding told_called
  right-fresh single =
      cases (is_wrong_board (length board))
      (λ e. let u = fresh-wrong t single (length board) S.size e in rw (e, still t single board (λ z. let k = ap (λ (o : Out). o.code) u in omega arith)) R)
      (λ e. let l = eqb-true (length board) board_bytes (not-false _ e) in rw e (subst (Right (fresh_day single)) (sym (cleared t S.size single board l)) (fresh_is_right single)))

  right-next : (a : Ask) (told : Told) → (takes a ≡ true → board_asked a ≡ board) → Right (told_called p (on_paper a) told).next (leaves a (told_alone t a told) board)
  unfolding told_called
  right-next (Fresh single other) (Got code) h = subst (Right p) (sym (away_board code t (Fresh single other) board h)) R
  right-next (Plain q) (Got code) h = subst (Right p) (sym (away_board code t (Plain q) board h)) R
  right-next (Fresh single other) Nothing h = subst (λ b. Right (told_called p (Fresh single (length b)) Nothing).next (fresh_board t single b)) (sym (h refl)) (right-fresh single)
  right-next (Plain q) Nothing h = right-call q h

right_to : (hs : List Heard) (p : PlainDay) (t : List ℕ) → Stands p t → Alone t hs → (board : List ℕ) → OneBoard board hs → Right p board → Right (day_to p (entered_all hs)) (board_to board hs)
unfolding Alone OneBoard board_to day_to
right_to [] p t S A board O R = R
right_to (h ∷ hs) p t S A board O R =
    let q = (told_called p (on_paper h.ask) (told_to h)).next in
    right_to hs q h.got.table (subst (λ (u : Served). Stands q u.table) (sym A.0) (told_same p t S h.ask (told_to h)).stands) A.1 (board_next h board) O.1
    (subst (λ (u : Served). Right q (leaves h.ask u board)) (sym A.0) (right-next p t S board R h.ask (told_to h) O.0))

pub boards_stay_right : BoardsStayRight
unfolding Alone
boards_stay_right i ts cs early later h single board e a z O =
    let A = alone-after early (h ∷ later) (ts i) (subst (Alone (ts i)) e (courses-alone i ts cs)) in
    let m = made_first A.0 h single board a z A.1.0 in
    let k = sym (ap (λ (u : Served). u.reply.code) m) ∙ z in
    let f = fresh-taken A.0 single (length board) k in
    right_to later (fresh_day single) h.got.table (subst (λ (u : Served). Stands (fresh_day single) u.table) (sym m) (made-stands A.0 single board k)) A.1.1 h.got.board O
    (subst (Right (fresh_day single)) (sym (ap (λ (u : Served). u.board) m ∙ cleared A.0 f.0 single board f.1)) (fresh_is_right single))
