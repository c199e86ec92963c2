-- Four tables that have all been made fresh: nothing but a course number gives 1, the sum fits the card, and the assured part is never refused.
use Prim.Native.Nat.{ℕ, ◌+◌, ◌<◌, ◌≤◌}
use mathlib.Core.Bool.{Bool, false, true≢false}
use mathlib.Core.Path.{◌≡◌, sym, ◌∙◌, ap, subst}
use mathlib.Core.List.{List}
use native.Mathlib.Omega.{arith}
use lib.Dec.{eqb, ltb}
use lib.ListN.{length}
use borrow.Author.Tests.{eqb-false, eqb-true, ltb-false, ltb-true}
use Rattle.lists.specs.Lists.{changed}
use Rattle.lists.proofs.Cases.{cases, either}
use Rattle.boards.specs.Board.{board_bytes}
use Rattle.desk.specs.Calls.{Call, call_on}
use Rattle.plain.specs.Record.{PlainDay, fresh_day}
use Rattle.plain.specs.Fills.{enters}
use Rattle.table.specs.Served.{Served, served}
use Rattle.table.specs.Shared.{count_in}
use Rattle.consistency.proofs.Table.Stands.{Stands, is-table}
use Rattle.consistency.proofs.Table.Follows.{table_follows}
use Rattle.card.specs.Log.{assured, card, courses, larger, logged}
use Rattle.card.specs.Courses.{Ask, CourseCall, Fresh, Plain, Tables, counts, course_served, is_full, made_fresh, sharing, written}
use Rattle.card.proofs.Courses.{IsCourse, course_is, fresh-by_number, served_by_course}
use Rattle.card.proofs.Log.{assured-room, larger-assured, logged-changed, logged_follows, logged_same, room-left, within-passes}
use Rattle.courses.specs.Heard.{tables_after}
use Rattle.courses.specs.Claims.{OnceAllMade}
use Rattle.courses.proofs.Shared.{sharing_is}
use Rattle.courses.proofs.Told.{others_stay, own-written}
use Rattle.courses.proofs.Counts.{count-is, count_next, sharing-passes, sharing-room}
use Rattle.courses.proofs.Made.{Days, all_days, made-stands}
use Rattle.courses.proofs.Codes.{never_twenty, ones_exactly}

module _ (ts : Tables) (D : Days ts) (i : ℕ) (l : i < courses) where
  abbrev p : PlainDay
  p = D.day i l

  abbrev S : Stands p (ts i)
  S = D.stands i l

  abbrev full : ℕ → Bool
  full = is_full ts i

  C : IsCourse ts i
  C = record { number = l; tables = λ j k. is-table (D.day j k) (ts j) (D.stands j k) }

  had-shared : (q : Call (List ℕ)) → course_served ts i (Plain q) ≡ sharing full (ts i) q
  had-shared = served_by_course ts i (course_is ts i C)

  pub never_one : (a : Ask) → (course_served ts i a).reply.code ≡ 1 → ⊥
  never_one (Fresh single board) e = ((ones_exactly ts i).fresh single board).0 e (l, S.size)
  never_one (Plain q) e = true≢false (sym (((ones_exactly ts i).call q).0 e) ∙ course_is ts i C)

  room-assured : (n : ℕ) → n ≤ assured → full n ≡ false
  unfolding is_full
  room-assured n k = assured-room (counts ts) i n l D.sum k

  never_turned : (q : Call (List ℕ)) → counts ts i + enters (call_on length q) ≤ assured → course_served ts i (Plain q) ≡ served (ts i) q
  never_turned q k = had-shared q ∙ sharing-passes full assured room-assured p (ts i) S q k

  -- counts that fit together with a larger one
  room-below : (m : ℕ) → logged (changed (counts ts) i m) ≤ card → (n : ℕ) → n ≤ m → full n ≡ false
  unfolding is_full
  room-below m s n k = within-passes _ (let f = logged_follows (changed (counts ts) i n) (changed (counts ts) i m) by in omega arith)
    where
      by : (x : ℕ) → x < courses → changed (counts ts) i n x ≤ changed (counts ts) i m x
      by x q = cases (eqb x i) (λ e. rw e k) (λ e. rw e (omega arith))

  room_fits : (n : ℕ) → full n ≡ false → logged (changed (counts ts) i n) ≤ card
  unfolding is_full
  room_fits n e = room-left _ e

  now-fits : logged (changed (counts ts) i (counts ts i)) ≤ card
  now-fits = let e = logged-changed (counts ts) i (counts ts i) l in let s = D.sum in omega arith

  module _ (q : Call (List ℕ)) (taken : (served (ts i) q).reply.code ≡ 0) where
    abbrev then : ℕ
    then = counts ts i + enters (call_on length q)

    there : (course_served ts i (Plain q)).reply.code ≡ 20 → card < logged (changed (counts ts) i then)
    there e =
        cases (ltb card (logged (changed (counts ts) i then)))
        (λ k. ltb-true card _ k)
        (λ k. let s = had-shared q ∙ sharing-passes full then (room-below then (ltb-false card _ k)) p (ts i) S q (omega arith) in
        absurd (never_twenty (ts i) q (sym (ap (λ (u : Served). u.reply.code) s) ∙ e)))

    back : card < logged (changed (counts ts) i then) → (course_served ts i (Plain q)).reply.code ≡ 20
    back k =
        either (sharing_is full (ts i) q)
        (λ s. let f = sharing-room full (λ n. logged (changed (counts ts) i n) ≤ card) room_fits p (ts i) S now-fits q in
        let g : logged (changed (counts ts) i then) ≤ card = subst (λ n. logged (changed (counts ts) i n) ≤ card) (ap (λ (u : Served). count_in u.table) s ∙ count_next p (ts i) S q ∙ rw taken) f in
        absurd (omega arith))
        (λ s. ap (λ (u : Served). u.reply.code) (had-shared q ∙ s))

  -- made fresh, the course has no updates, and the other counts stay
  module _ (single : Bool) (board : List ℕ) (b : length board ≡ board_bytes) where
    abbrev c : CourseCall
    c = record { course = i; ask = Fresh single board }

    made-taken : (made_fresh (ts i) single board).reply.code ≡ 0
    made-taken = rw b (table_follows (ts i) S.size single).0

    none_left : count_in (made_fresh (ts i) single board).table ≡ 0
    none_left = count-is (fresh_day single) (made_fresh (ts i) single board).table (made-stands (ts i) single board made-taken)

    by : (x : ℕ) → counts (written ts c) x ≡ changed (counts ts) i 0 x
    by x =
        cases (eqb x i)
        (λ e. rw e (ap count_in (own-written ts c x (sym (eqb-true x i e)) ∙ ap (λ (u : Served). u.table) (fresh-by_number ts i l single board)) ∙ none_left))
        (λ e. rw e (ap count_in (others_stay ts c x (eqb-false x i e))))

    gives_back : logged (counts (written ts c)) + larger (counts ts i) ≡ logged (counts ts) + assured
    gives_back =
        let e = logged_same (counts (written ts c)) (changed (counts ts) i 0) (λ x k. by x) in
        let g = logged-changed (counts ts) i 0 l in
        let z = larger-assured 0 (omega arith) in
        omega arith

pub once_all_made : OnceAllMade
once_all_made ts cs A =
    let us = tables_after ts cs in
    let D = all_days ts cs A in
    record {
      tables = λ i l. (C us D i l).tables i l;
      never_one = never_one us D;
      sum = D.sum;
      never_turned = never_turned us D;
      twenty = λ i l q h. (there us D i l q h, back us D i l q h);
      gives_back = gives_back us D;
    }
