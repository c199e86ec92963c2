-- A course's calls have the answers of its plain day, which is told of 1 and 20; those that it is not told of have what a table alone gives them, and demand 3 holds of them.
use Prim.Native.Nat.{ℕ}
use mathlib.Core.Bool.{Bool, false}
use mathlib.Core.Path.{◌≡◌, refl, sym, ◌∙◌, ap, subst}
use mathlib.Core.List.{List, [], ◌∷◌, ◌++◌}
use lib.ListN.{length}
use borrow.Author.Tests.{eqb-false}
use Rattle.lists.proofs.Cases.{cases}
use Rattle.boards.specs.Board.{board_bytes, is_wrong_board}
use Rattle.desk.specs.Calls.{Call}
use Rattle.plain.specs.Record.{PlainDay, fresh_day}
use Rattle.table.specs.Out.{Out, table_bytes}
use Rattle.table.specs.Calls.{fresh_out}
use Rattle.table.specs.Served.{Served, out_reply}
use Rattle.consistency.proofs.Table.Stands.{Stands}
use Rattle.consistency.proofs.Table.Calls.{Same}
use Rattle.consistency.proofs.Table.Follows.{call_same}
use Rattle.consistency.proofs.Demand.{demand_three}
use Rattle.card.specs.Courses.{Ask, Fresh, Plain, made_fresh}
use Rattle.courses.specs.Heard.{Heard}
use Rattle.courses.specs.Days.{Got, Nothing, Told, answers_to, entered_all, on_paper, replies_of, replies_to, sheet_asked, told_alone, told_called, told_to}
use Rattle.courses.specs.Claims.{Alone, CoursesExplained, FollowsPlainDay, if_untold, is_made, served_on, untold, untold_got}
use Rattle.courses.proofs.Told.{courses-alone, refused-alone}
use Rattle.courses.proofs.Made.{fresh_right, fresh-taken, fresh-wrong, made-stands}

-- made fresh on the day and on the table, whatever these were
pub made_same : (p : PlainDay) (t : List ℕ) (single : Bool) (board : List ℕ) → length t ≡ table_bytes → is_wrong_board (length board) ≡ false
    → Same [] (made_fresh t single board) (told_called p (Fresh single (length board)) Nothing)
unfolding told_called
made_same p t single board l e =
    let u = fresh_right t single (length board) l e in
    rw e (record { reply = ap (λ (o : Out). out_reply o []) u; stands = made-stands t single board (ap (λ (o : Out). o.code) u) })

fresh_same : (p : PlainDay) (t : List ℕ) → Stands p t → (single : Bool) (board : List ℕ) → Same [] (made_fresh t single board) (told_called p (Fresh single (length board)) Nothing)
unfolding told_called
fresh_same p t S single board =
    cases (is_wrong_board (length board))
    (λ e. let u = fresh-wrong t single (length board) S.size e in rw e (record { reply = ap (λ (o : Out). out_reply o []) u; stands = subst (λ (o : Out). Stands p o.lent) (sym u) S }))
    (made_same p t single board S.size)

pub told_same : (p : PlainDay) (t : List ℕ) → Stands p t → (a : Ask) (told : Told) → Same (sheet_asked a) (told_alone t a told) (told_called p (on_paper a) told)
unfolding told_called
told_same p t S (Fresh single board) (Got code) = record { reply = refl; stands = S }
told_same p t S (Plain q) (Got code) = record { reply = refl; stands = S }
told_same p t S (Fresh single board) Nothing = fresh_same p t S single board
told_same p t S (Plain q) Nothing = call_same p t S q

pub replies_are : (hs : List Heard) (p : PlainDay) (t : List ℕ) → Stands p t → Alone t hs → replies_of hs ≡ replies_to hs (answers_to p (entered_all hs))
unfolding Alone replies_to answers_to
replies_are [] p t S A = refl
replies_are (h ∷ hs) p t S A =
    let s = told_same p t S h.ask (told_to h) in
    let first = ap (λ (u : Served). u.reply) A.0 ∙ s.reply in
    let rest = replies_are hs (told_called p (on_paper h.ask) (told_to h)).next h.got.table (subst (λ (u : Served). Stands (told_called p (on_paper h.ask) (told_to h)).next u.table) (sym A.0) s.stands) A.1 in
    λ i. first i ∷ rest i

-- a part of what a course heard, from the table that it found
pub alone-after : (early rest : List Heard) (t : List ℕ) → Alone t (early ++ rest) → (u : List ℕ) × Alone u rest
unfolding Alone
alone-after [] rest t A = (t, A)
alone-after (h ∷ early) rest t A = alone-after early rest h.got.table A.1

-- it begins with the course made fresh
pub made_first : (t : List ℕ) (h : Heard) (single : Bool) (board : List ℕ) → h.ask ≡ Fresh single board → h.got.reply.code ≡ 0
    → h.got ≡ told_alone t h.ask (told_to h) → h.got ≡ made_fresh t single board
made_first t h single board a z e = e ∙ rw (a, z)

pub follows_plain_day : FollowsPlainDay
unfolding Alone
follows_plain_day i ts cs early later h single board e a z =
    let R = alone-after early (h ∷ later) (ts i) (subst (Alone (ts i)) e (courses-alone i ts cs)) in
    let m = made_first R.0 h single board a z R.1.0 in
    replies_are later (fresh_day single) h.got.table (subst (λ (u : Served). Stands (fresh_day single) u.table) (sym m) (made-stands R.0 single board (sym (ap (λ (u : Served). u.reply.code) m) ∙ z))) R.1.1

-- one more call that the day is not told of, or that leaves the table
one-untold : (t : List ℕ) (a : Ask) (told : Told) (g : Served) → g ≡ told_alone t a told → is_made a g.reply.code ≡ false
    → (qs : List (Call (List ℕ))) (gs : List Served) → gs ≡ served_on g.table qs → if_untold a told (λ q. g) gs ≡ served_on t (if_untold a told (λ q. q) qs)
unfolding served_on
one-untold t (Fresh single board) (Got code) g e m qs gs r = r ∙ ap (λ (u : Served). served_on u.table qs) e
one-untold t (Fresh single board) Nothing g e m qs gs r =
    let z = ap (λ (u : Served). u.reply.code) e in
    let s = refused-alone t (Fresh single board) (λ k. eqb-false g.reply.code 0 m (z ∙ k)) in
    r ∙ ap (λ (u : Served). served_on u.table qs) (e ∙ s)
one-untold t (Plain q) (Got code) g e m qs gs r = r ∙ ap (λ (u : Served). served_on u.table qs) e
one-untold t (Plain q) Nothing g e m qs gs r = let rest = r ∙ ap (λ (u : Served). served_on u.table qs) e in λ i. e i ∷ rest i

untold-got : (hs : List Heard) (t : List ℕ) → Alone t hs → untold_got hs ≡ served_on t (untold hs)
unfolding Alone untold untold_got served_on
untold-got [] t A = refl
untold-got (h ∷ hs) t A =
    let rest = untold-got hs h.got.table A.1 in
    cases (is_made h.ask h.got.reply.code) (λ e. rw e) (λ e. rw e (one-untold t h.ask (told_to h) h.got A.0 e (untold hs) (untold_got hs) rest))

-- fresh tables are alike, whatever they were
pub fresh_alike : (t u : List ℕ) (single : Bool) (room : ℕ) → length u ≡ table_bytes → (fresh_out t single room).code ≡ 0 → fresh_out t single room ≡ fresh_out u single board_bytes
fresh_alike t u single room l z = let f = fresh-taken t single room z in fresh_right t single room f.0 (rw f.1) ∙ sym (fresh_right u single board_bytes l refl)

pub courses_explained : CoursesExplained
unfolding Alone
courses_explained i ts cs early later h single board e a z t l =
    let R = alone-after early (h ∷ later) (ts i) (subst (Alone (ts i)) e (courses-alone i ts cs)) in
    let m = made_first R.0 h single board a z R.1.0 in
    let same = fresh_alike R.0 t single (length board) l (sym (ap (λ (u : Served). u.reply.code) m) ∙ z) in
    let bytes : h.got.table ≡ (fresh_out t single board_bytes).lent = ap (λ (u : Served). u.table) m ∙ ap (λ (o : Out). o.lent) same in
    record { got = untold-got later h.got.table R.1.1 ∙ ap (λ b. served_on b (untold later)) bytes; explained = demand_three t l single (untold later) }
