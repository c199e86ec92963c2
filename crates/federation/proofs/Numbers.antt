-- A call on four tables by the number of its course: only its table is another, and for another number than 0 to 3 none is.
use Prim.Native.Nat.{ℕ, ◌<◌, ◌≤◌, ◌-◌}
use mathlib.Core.Path.{◌≡◌, sym, ◌∙◌, ap}
use mathlib.Core.List.{List, [], ◌∷◌}
use native.Mathlib.Omega.{arith}
use lib.Dec.{ltb}
use borrow.Author.Tests.{ne_eqb}
use Rattle.lists.proofs.Cases.{cases}
use Rattle.lists.specs.Lists.{changed}
use Rattle.table.specs.Served.{Served}
use Rattle.card.specs.Log.{assured, card, courses}
use Rattle.card.specs.Room.{most, served_beside}
use Rattle.desk.specs.Calls.{Answer, Call, Look, Looks}
use Rattle.card.specs.Courses.{Ask, Plain, Tables, course_served, turned_away, written, four}
use Rattle.card.proofs.Courses.{no-such-course}
use Rattle.card.proofs.Room.{by_number}
use Rattle.federation.specs.Out.{FourOut, course_out}

-- the room that the others leave is on the card
pub most_on_card : (n : ℕ) → most n ≤ card
unfolding most
most_on_card n = cases (ltb (card - assured) n) (λ e. rw e (omega arith)) (λ e. rw e (omega arith))

-- the four tables with course i's as s has it
abbrev leaving : Tables → ℕ → Served → FourOut
leaving ts i s = record { reply = s.reply; tables = changed ts i s.table 0 ∷ changed ts i s.table 1 ∷ changed ts i s.table 2 ∷ changed ts i s.table 3 ∷ []; board = s.board }

out_is : (ts : Tables) (i : ℕ) (ask : Ask) (s : Served) → s ≡ course_served ts i ask → leaving ts i s ≡ course_out ts i ask
unfolding course_out written
out_is ts i ask s e = ap (leaving ts i) e

module _ (a b c d : List ℕ) (ask : Ask) {s : Served} {i : ℕ} where
  pub left-first : i ≡ 0 → s ≡ course_served (four a b c d) 0 ask → record { reply = s.reply; tables = s.table ∷ b ∷ c ∷ d ∷ []; board = s.board } ≡ course_out (four a b c d) i ask
  unfolding four
  left-first e h = rw e (out_is (four a b c d) 0 ask s h)

  pub left-second : i ≡ 1 → s ≡ course_served (four a b c d) 1 ask → record { reply = s.reply; tables = a ∷ s.table ∷ c ∷ d ∷ []; board = s.board } ≡ course_out (four a b c d) i ask
  unfolding four
  left-second e h = rw e (out_is (four a b c d) 1 ask s h)

  pub left-third : i ≡ 2 → s ≡ course_served (four a b c d) 2 ask → record { reply = s.reply; tables = a ∷ b ∷ s.table ∷ d ∷ []; board = s.board } ≡ course_out (four a b c d) i ask
  unfolding four
  left-third e h = rw e (out_is (four a b c d) 2 ask s h)

  pub left-fourth : i ≡ 3 → s ≡ course_served (four a b c d) 3 ask → record { reply = s.reply; tables = a ∷ b ∷ c ∷ s.table ∷ []; board = s.board } ≡ course_out (four a b c d) i ask
  unfolding four
  left-fourth e h = rw e (out_is (four a b c d) 3 ask s h)

  pub left-none : (i < courses → ⊥) → s ≡ turned_away 1 (four a b c d i) ask → record { reply = s.reply; tables = a ∷ b ∷ c ∷ d ∷ []; board = s.board } ≡ course_out (four a b c d) i ask
  unfolding course_out written four
  left-none n e =
      let h = e ∙ sym (no-such-course (four a b c d) i n ask) in
      let z0 : 0 ≡ i → ⊥ = λ z. n (rw (← z) (omega arith)) in
      let z1 : 1 ≡ i → ⊥ = λ z. n (rw (← z) (omega arith)) in
      let z2 : 2 ≡ i → ⊥ = λ z. n (rw (← z) (omega arith)) in
      let z3 : 3 ≡ i → ⊥ = λ z. n (rw (← z) (omega arith)) in
      rw (ne_eqb 0 i z0, ne_eqb 1 i z1, ne_eqb 2 i z2, ne_eqb 3 i z3) (ap (λ (u : Served). record { reply = u.reply; tables = a ∷ b ∷ c ∷ d ∷ []; board = u.board }) h)

-- of a call beside the other three
module _ (a b c d : List ℕ) (q : Call (List ℕ)) {s : Served} {i : ℕ} where
  pub call_first : i ≡ 0 → s ≡ served_beside b c d a q → record { reply = s.reply; tables = s.table ∷ b ∷ c ∷ d ∷ []; board = s.board } ≡ course_out (four a b c d) i (Plain q)
  call_first e h = left-first a b c d (Plain q) e (h ∙ sym (by_number a b c d q).first)

  pub call_second : i ≡ 1 → s ≡ served_beside a c d b q → record { reply = s.reply; tables = a ∷ s.table ∷ c ∷ d ∷ []; board = s.board } ≡ course_out (four a b c d) i (Plain q)
  call_second e h = left-second a b c d (Plain q) e (h ∙ sym (by_number a b c d q).second)

  pub call_third : i ≡ 2 → s ≡ served_beside a b d c q → record { reply = s.reply; tables = a ∷ b ∷ s.table ∷ d ∷ []; board = s.board } ≡ course_out (four a b c d) i (Plain q)
  call_third e h = left-third a b c d (Plain q) e (h ∙ sym (by_number a b c d q).third)

  pub call_fourth : i ≡ 3 → s ≡ served_beside a b c d q → record { reply = s.reply; tables = a ∷ b ∷ c ∷ s.table ∷ []; board = s.board } ≡ course_out (four a b c d) i (Plain q)
  call_fourth e h = left-fourth a b c d (Plain q) e (h ∙ sym (by_number a b c d q).fourth)

-- of one that only looks: its answer
module _ (a b c d : List ℕ) (l : Look (List ℕ)) {r : Answer (List ℕ)} {i : ℕ} where
  pub look_first : i ≡ 0 → r ≡ (served_beside b c d a (Looks l)).reply → r ≡ (course_served (four a b c d) i (Plain (Looks l))).reply
  look_first e h = rw e (h ∙ ap (λ (u : Served). u.reply) (sym (by_number a b c d (Looks l)).first))

  pub look_second : i ≡ 1 → r ≡ (served_beside a c d b (Looks l)).reply → r ≡ (course_served (four a b c d) i (Plain (Looks l))).reply
  look_second e h = rw e (h ∙ ap (λ (u : Served). u.reply) (sym (by_number a b c d (Looks l)).second))

  pub look_third : i ≡ 2 → r ≡ (served_beside a b d c (Looks l)).reply → r ≡ (course_served (four a b c d) i (Plain (Looks l))).reply
  look_third e h = rw e (h ∙ ap (λ (u : Served). u.reply) (sym (by_number a b c d (Looks l)).third))

  pub look_fourth : i ≡ 3 → r ≡ (served_beside a b c d (Looks l)).reply → r ≡ (course_served (four a b c d) i (Plain (Looks l))).reply
  look_fourth e h = rw e (h ∙ ap (λ (u : Served). u.reply) (sym (by_number a b c d (Looks l)).fourth))
