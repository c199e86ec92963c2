-- Two days that begin by making all four fresh, and agree in a course's calls and in which of them got 20, agree in its answers; if they agree in the lent bytes
-- too, in all that it had.
use Prim.Native.Nat.{ℕ, ◌<◌}
use mathlib.Core.Bool.{Bool, true, false, cond, false≢true}
use mathlib.Core.Option.{Option}
use mathlib.Core.Path.{◌≡◌, refl, sym, ◌∙◌, ap, subst}
use mathlib.Core.List.{List, [], ◌∷◌, ◌++◌}
use native.Mathlib.Omega.{arith}
use lib.Dec.{eqb}
use lib.ListN.{length, replicate}
use borrow.Author.Tests.{eqb-true, ne_eqb}
use Rattle.lists.proofs.Cases.{cases}
use Rattle.boards.specs.Board.{board_bytes}
use Rattle.diagram.specs.Checks.{is_some}
use Rattle.desk.specs.Calls.{Answer, answer_on}
use Rattle.plain.specs.Record.{PlainDay, fresh_day}
use Rattle.table.specs.Out.{Out, table_bytes}
use Rattle.table.specs.Calls.{fresh_board}
use Rattle.table.specs.Served.{Served, out_reply}
use Rattle.consistency.specs.Table.{sheet_with}
use Rattle.consistency.proofs.Table.Stands.{Stands}
use Rattle.card.specs.Log.{courses}
use Rattle.card.specs.Courses.{Ask, CourseCall, Fresh, Plain, Tables, gets, made_fresh, turned_away, written}
use Rattle.courses.specs.Heard.{Heard, alone, heard, tables_after}
use Rattle.courses.specs.Days.{Entered, Got, Nothing, Told, answers_to, entered_all, on_paper, replies_of, replies_to, sheet_asked, told_alone, told_called, told_of}
use Rattle.courses.specs.Claims.{Alone, Asked, Begins, DaysAgree, DaysSame, EachMakes, asks, is_made, was_made}
use Rattle.courses.proofs.Told.{courses-alone}
use Rattle.courses.proofs.Made.{Known, fresh_right, fresh-taken, from_any, known_days, onward}
use Rattle.courses.proofs.Assured.{never_one}
use Rattle.courses.proofs.Days.{made_first, made_same, replies_are}

-- a table alone, where it is known which calls got 20
abbrev solo_served : List ℕ → Asked (List ℕ) → Served
solo_served t a = cond a.twenty (turned_away 20 t a.ask) (alone t a.ask)

unfoldable solo : List ℕ → List (Asked (List ℕ)) → List Heard
solo t [] = []
solo t (a ∷ more) = record { ask = a.ask; got = solo_served t a } ∷ solo (solo_served t a).table more

unfoldable NoOne : List Heard → Type 0
NoOne [] = Unit {0}
NoOne (h ∷ hs) = (h.got.reply.code ≡ 1 → ⊥) × NoOne hs

solo_is : (t : List ℕ) (a : Ask) (g : Served) → (g.reply.code ≡ 1 → ⊥) → g ≡ told_alone t a (told_of g.reply.code) → g ≡ solo_served t (record { ask = a; twenty = eqb g.reply.code 20 })
solo_is t a g n e =
    cases (eqb g.reply.code 20)
    (λ q. rw q (subst (λ k. g ≡ told_alone t a (told_of k)) (eqb-true g.reply.code 20 q) e))
    (λ q. rw q (rw (ne_eqb g.reply.code 1 n, q) at e))

solo_from : (hs : List Heard) (t : List ℕ) → Alone t hs → NoOne hs → hs ≡ solo t (asks (λ x. x) hs)
unfolding Alone NoOne solo
solo_from [] t A N = refl
solo_from (h ∷ hs) t A N =
    let g = solo_is t h.ask h.got N.0 A.0 in
    let rest = solo_from hs h.got.table A.1 N.1 ∙ ap (λ (u : Served). solo u.table (asks (λ x. x) hs)) g in
    λ i. record { ask = h.ask; got = g i } ∷ rest i

-- no call of a course that was made fresh has 1
heard_both : (i : ℕ) (a b : List CourseCall) (ts : Tables) → heard i ts (a ++ b) ≡ heard i ts a ++ heard i (tables_after ts a) b
unfolding heard tables_after
heard_both i [] b ts = refl
heard_both i (c ∷ a) b ts =
    let rest = heard_both i a b (written ts c) in
    cases (eqb c.course i) (λ e. rw e (ap (λ hs. record { ask = c.ask; got = gets ts c } ∷ hs) rest)) (λ e. rw e rest)

no_one_both : (a b : List Heard) → NoOne a → NoOne b → NoOne (a ++ b)
unfolding NoOne
no_one_both [] b N M = M
no_one_both (h ∷ a) b N M = (N.0, no_one_both a b N.1 M)

made-is : (a : Ask) (code : ℕ) → is_made a code ≡ true → (single : Bool) × (board : List ℕ) × (a ≡ Fresh single board) × (code ≡ 0)
made-is (Fresh single board) code e = (single, board, refl, eqb-true code 0 e)
made-is (Plain q) code e = absurd (false≢true e)

opening_no_one : (i : ℕ) (cs : List CourseCall) (ts : Tables) → EachMakes ts cs → NoOne (heard i ts cs)
unfolding NoOne heard EachMakes
opening_no_one i [] ts E = tt
opening_no_one i (c ∷ cs) ts E =
    let rest = opening_no_one i cs (written ts c) E.1 in
    let z = (made-is c.ask (gets ts c).reply.code E.0).3 in
    cases (eqb c.course i) (λ e. rw e (λ h. omega arith, rest)) (λ e. rw e rest)

rest_no_one : (i : ℕ) → i < courses → (cs : List CourseCall) (days : ℕ → Option PlainDay) (ts : Tables) → Known days ts → ((j : ℕ) → j < courses → is_some (days j) ≡ true) → NoOne (heard i ts cs)
unfolding NoOne heard
rest_no_one i l [] days ts K A = tt
rest_no_one i l (c ∷ cs) days ts K A =
    let o = onward days ts K c in
    let rest = rest_no_one i l cs o.days' (written ts c) o.known (λ j k. o.keeps j (A j k)) in
    cases (eqb c.course i)
    (λ e. rw e (never_one ts (known_days days ts K A) c.course (subst (λ j. j < courses) (sym (eqb-true c.course i e)) l) c.ask, rest))
    (λ e. rw e rest)

no_one : (i : ℕ) → i < courses → (ts : Tables) (cs : List CourseCall) → Begins ts cs → NoOne (heard i ts cs)
no_one i l ts cs B =
    let R = from_any ts B.opening in
    let N = no_one_both (heard i ts B.opening) (heard i (tables_after ts B.opening) B.rest) (opening_no_one i B.opening ts B.each) (rest_no_one i l B.rest R.days' (tables_after ts B.opening) R.known (λ j k. R.made j (B.all j k))) in
    subst (λ xs. NoOne (heard i ts xs)) (sym B.is) (subst NoOne (sym (heard_both i B.opening B.rest ts)) N)

-- its first call made it fresh
record Starts (hs : List Heard) : Type 0 where
  first : Heard
  later : List Heard
  single : Bool
  board : List ℕ
  is : hs ≡ first ∷ later
  asked : first.ask ≡ Fresh single board
  code : first.got.reply.code ≡ 0

starts : (i : ℕ) (a b : List CourseCall) (ts : Tables) → EachMakes ts a → was_made (heard i ts a) ≡ true → Starts (heard i ts (a ++ b))
unfolding heard EachMakes was_made
starts i [] b ts E m = absurd (false≢true m)
starts i (c ∷ a) b ts E m =
    let f = made-is c.ask (gets ts c).reply.code E.0 in
    cases (eqb c.course i)
    (λ e. rw e (record { first = record { ask = c.ask; got = gets ts c }; later = heard i (written ts c) (a ++ b); single = f.0; board = f.1; is = refl; asked = f.2; code = f.3 }))
    (λ e. rw e (starts i a b (written ts c) E.1 (rw e at m)))

-- made fresh, all tables of the right length are alike
made_alike : (t u : List ℕ) (single : Bool) (board : List ℕ) → length t ≡ table_bytes → length u ≡ table_bytes → length board ≡ board_bytes → made_fresh t single board ≡ made_fresh u single board
unfolding fresh_board
made_alike t u single board l k b =
    let e = fresh_right t single (length board) l (rw b) ∙ sym (fresh_right u single (length board) k (rw b)) in
    ap (λ (o : Out). record { reply = out_reply o []; table = o.lent; board = cond (eqb o.code 0) (replicate board_bytes 0) board }) e

record Found (t : List ℕ) (hs : List Heard) : Type 0 where
  size : length t ≡ table_bytes
  alike : (u : List ℕ) → length u ≡ table_bytes → solo t (asks (λ x. x) hs) ≡ solo u (asks (λ x. x) hs)

found : (t : List ℕ) (hs : List Heard) → Alone t hs → Starts hs → Found t hs
unfolding Alone solo
found t hs A H = subst (Found t) (sym H.is) (by (subst (Alone t) H.is A))
  where
    by : Alone t (H.first ∷ H.later) → Found t (H.first ∷ H.later)
    by B =
        let m = made_first t H.first H.single H.board H.asked H.code B.0 in
        let f = fresh-taken t H.single (length H.board) (sym (ap (λ (u : Served). u.reply.code) m) ∙ H.code) in
        record { size = f.0; alike = λ u k. rw (H.asked, H.code) (ap (λ (g : Served). record { ask = Fresh H.single H.board; got = g } ∷ solo g.table (asks (λ x. x) H.later)) (made_alike t u H.single H.board f.0 k f.1)) }

begun : (i : ℕ) → i < courses → (ts : Tables) (cs : List CourseCall) → (B : Begins ts cs) → Starts (heard i ts cs)
begun i l ts cs B = subst (λ xs. Starts (heard i ts xs)) (sym B.is) (starts i B.opening B.rest ts B.each (B.all i l))

pub days_same : DaysSame
days_same i l ts us cs ds B C e =
    let hs = heard i ts cs in
    let ks = heard i us ds in
    let F = found (ts i) hs (courses-alone i ts cs) (begun i l ts cs B) in
    let G = found (us i) ks (courses-alone i us ds) (begun i l us ds C) in
    solo_from hs (ts i) (courses-alone i ts cs) (no_one i l ts cs B)
    ∙ F.alike (us i) G.size ∙ ap (solo (us i)) e
    ∙ sym (solo_from ks (us i) (courses-alone i us ds) (no_one i l us ds C))

-- what the plain day is fed, where no call got 1
abbrev entered : Asked ℕ → Entered
entered a = record { ask = a.ask; told = cond a.twenty (Got 20) Nothing }

entered_by : List (Asked ℕ) → List Entered
entered_by [] = []
entered_by (a ∷ more) = entered a ∷ entered_by more

told_twenty : (k : ℕ) → (k ≡ 1 → ⊥) → told_of k ≡ cond (eqb k 20) (Got 20) Nothing
told_twenty k n = rw (ne_eqb k 1 n) (cases (eqb k 20) (λ q. rw q (ap Got (eqb-true k 20 q))) (λ q. rw q))

entered_is : (hs : List Heard) → NoOne hs → entered_all hs ≡ entered_by (asks on_paper hs)
unfolding NoOne entered_by
entered_is [] N = refl
entered_is (h ∷ hs) N =
    let first = told_twenty h.got.reply.code N.0 in
    let rest = entered_is hs N.1 in
    λ i. record { ask = on_paper h.ask; told = first i } ∷ rest i

-- from where the course is made fresh, its callers have the plain day's answers, whatever the day and the table were
fresh-answers : (p : PlainDay) (t : List ℕ) (hs : List Heard) → Alone t hs → Starts hs → replies_of hs ≡ replies_to hs (answers_to p (entered_all hs))
unfolding Alone replies_to answers_to
fresh-answers p t hs A H = subst Answered (sym H.is) (by (subst (Alone t) H.is A))
  where
    Answered : List Heard → Type 0
    Answered ks = replies_of ks ≡ replies_to ks (answers_to p (entered_all ks))

    expected : Ask → Told → List (Answer (List ℕ))
    expected a told = answer_on (λ ls. sheet_with ls (sheet_asked a)) (told_called p (on_paper a) told).answer ∷ replies_to H.later (answers_to (told_called p (on_paper a) told).next (entered_all H.later))

    by : Alone t (H.first ∷ H.later) → Answered (H.first ∷ H.later)
    by B =
        let m = made_first t H.first H.single H.board H.asked H.code B.0 in
        let f = fresh-taken t H.single (length H.board) (sym (ap (λ (u : Served). u.reply.code) m) ∙ H.code) in
        let s = made_same p t H.single H.board f.0 (rw f.1) in
        let next = (told_called p (Fresh H.single (length H.board)) Nothing).next in
        let first = ap (λ (u : Served). u.reply) m ∙ s.reply in
        let rest = replies_are H.later next H.first.got.table (subst (λ (u : Served). Stands next u.table) (sym m) s.stands) B.1 in
        let told : told_of H.first.got.reply.code ≡ Nothing = ap told_of H.code in
        (λ i. first i ∷ rest i) ∙ (λ j. expected (sym H.asked j) (sym told j))

pub days_agree : DaysAgree
days_agree i l ts us cs ds B C e =
    let hs = heard i ts cs in
    let ks = heard i us ds in
    let p = fresh_day false in
    let same : entered_all hs ≡ entered_all ks = entered_is hs (no_one i l ts cs B) ∙ ap entered_by e ∙ sym (entered_is ks (no_one i l us ds C)) in
    record {
      answers = answers_to p (entered_all hs);
      one = fresh-answers p (ts i) hs (courses-alone i ts cs) (begun i l ts cs B);
      other = fresh-answers p (us i) ks (courses-alone i us ds) (begun i l us ds C) ∙ ap (λ es. replies_to ks (answers_to p es)) (sym same);
    }
