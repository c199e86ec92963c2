-- A call of a course is served as by its table alone, or has 1 or 20 and changes nothing.
use Prim.Native.Nat.{ℕ}
use mathlib.Core.Bool.{Bool, true, ◌||◌}
use mathlib.Core.Path.{◌≡◌, refl, sym, ◌∙◌, ap, subst}
use mathlib.Core.List.{List, [], ◌∷◌}
use native.Mathlib.Omega.{arith}
use lib.Dec.{eqb}
use lib.ListN.{length}
use borrow.Author.Tests.{eqb-false, eqb-true}
use Rattle.lists.proofs.Cases.{cases, cond_all, either, or_cases}
use Rattle.desk.specs.Calls.{plainly}
use Rattle.table.specs.Out.{Out}
use Rattle.table.specs.Calls.{fresh_board, fresh_out}
use Rattle.table.specs.Served.{Served, out_reply}
use Rattle.consistency.proofs.Refusals.{refusals_change_nothing, still, unmade}
use Rattle.card.specs.Courses.{Ask, CourseCall, Fresh, Plain, Tables, course_served, gets, is_full, made_fresh, no_course, no_fresh, turned_away, written}
use Rattle.card.proofs.Courses.{written-other, written-own}
use Rattle.courses.specs.Heard.{alone, heard}
use Rattle.courses.specs.Days.{Got, told_alone, told_of}
use Rattle.courses.specs.Claims.{Alone, CoursesAlone, OthersStay}
use Rattle.courses.proofs.Shared.{sharing_is}

-- a refusal of a table alone, of a call or of fresh
refused-fresh : (t : List ℕ) (single : Bool) (board : List ℕ) → ((made_fresh t single board).reply.code ≡ 0 → ⊥) → made_fresh t single board ≡ turned_away (made_fresh t single board).reply.code t (Fresh single board)
refused-fresh t single board h =
    let u = fresh_out t single (length board) in
    ap (λ (o : Out). record { reply = out_reply o []; table = o.lent; board = fresh_board t single board }) (unmade t single board h).is
    ∙ ap (λ b. record { reply = plainly u.code 0 []; table = t; board = b }) (still t single board h)

pub refused-alone : (t : List ℕ) (a : Ask) → ((alone t a).reply.code ≡ 0 → ⊥) → alone t a ≡ turned_away (alone t a).reply.code t a
refused-alone t (Fresh single board) h = refused-fresh t single board h
refused-alone t (Plain q) h = (refusals_change_nothing t q h).blank

-- what was had is what the table alone gives, or a refusal with 1 or 20
pub data Either (t : List ℕ) (a : Ask) : Served → Type 0 where
  same : Either t a (alone t a)
  away : (code : ℕ) → told_of code ≡ Got code → Either t a (turned_away code t a)

code_away : (code : ℕ) (t : List ℕ) (a : Ask) → (turned_away code t a).reply.code ≡ code
code_away code t (Fresh single board) = refl
code_away code t (Plain q) = refl

nonzero : (code : ℕ) → (eqb code 1 || eqb code 20) ≡ true → code ≡ 0 → ⊥
nonzero code e z = either (or_cases (eqb code 1) (eqb code 20) e) (λ f. let g = eqb-true code 1 f in omega arith) (λ f. let g = eqb-true code 20 f in omega arith)

told_is : (t : List ℕ) (a : Ask) {s : Served} → Either t a s → s ≡ told_alone t a (told_of s.reply.code)
told_is t a same = by (alone t a).reply.code refl
  where
    by : (k : ℕ) → (alone t a).reply.code ≡ k → alone t a ≡ told_alone t a (told_of k)
    by k e = cases (eqb k 1 || eqb k 20) (λ f. rw f (subst (λ n. alone t a ≡ turned_away n t a) e (refused-alone t a (λ z. nonzero k f (sym e ∙ z))))) (λ f. rw f)
told_is t a (away code e) = sym (ap (λ n. told_alone t a (told_of n)) (code_away code t a) ∙ ap (told_alone t a) e)

-- what course i has of a call, of any four buffers
pub had_is : (ts : Tables) (i : ℕ) (a : Ask) → Either (ts i) a (course_served ts i a)
unfolding course_served
had_is ts i (Fresh single board) = cond_all (Either (ts i) (Fresh single board)) (no_fresh ts i) _ _ (away 1 refl) same
had_is ts i (Plain q) =
    cond_all (Either (ts i) (Plain q)) (no_course ts i) _ _ (away 1 refl)
    (either (sharing_is (is_full ts i) (ts i) q) (λ s. subst (Either (ts i) (Plain q)) (sym s) same) (λ s. subst (Either (ts i) (Plain q)) (sym s) (away 20 refl)))

pub had_told : (ts : Tables) (i : ℕ) (a : Ask) → course_served ts i a ≡ told_alone (ts i) a (told_of (course_served ts i a).reply.code)
had_told ts i a = told_is (ts i) a (had_is ts i a)

pub others_stay : OthersStay
others_stay = written-other

-- course i's own table after its call
pub own-written : (ts : Tables) (c : CourseCall) (i : ℕ) → c.course ≡ i → written ts c i ≡ (gets ts c).table
own-written ts c i e = subst (λ j. written ts c j ≡ (gets ts c).table) e (written-own ts c)

pub courses-alone : CoursesAlone
unfolding Alone heard
courses-alone i ts [] = tt
courses-alone i ts (c ∷ cs) =
    let rest = courses-alone i (written ts c) cs in
    cases (eqb c.course i)
    (λ e. let q = eqb-true c.course i e in rw e (
      subst (λ j. gets ts c ≡ told_alone (ts j) c.ask (told_of (gets ts c).reply.code)) q (had_told ts c.course c.ask),
      subst (λ t. Alone t (heard i (written ts c) cs)) (own-written ts c i q) rest,
    ))
    (λ e. rw e (subst (λ t. Alone t (heard i (written ts c) cs)) (others_stay ts c i (λ q. eqb-false c.course i e (sym q))) rest))
