-- The calls that are taken are a run of accepted steps of the day of revisions, and no entry changes once it is noted.
use Prim.Native.Nat.{◌+◌, ◌<◌, ◌≤◌, ℕ}
use mathlib.Core.Bool.{Bool, cond, false, true}
use mathlib.Core.Path.{◌∙◌, ◌≡◌, ap, refl, subst, sym}
use mathlib.Core.Option.{none, some}
use mathlib.Core.List.{List, [], ◌++◌, ◌∷◌, append_assoc}
use native.Mathlib.Omega.{arith}
use lib.Dec.{eqb}
use borrow.Author.Tests.{eqb-false, eqb-true, ne_eqb}
use Rattle.lists.proofs.Cases.{cases}
use Rattle.lists.proofs.Changed.{changed-other}
use Rattle.bundles.specs.declared.entry.Entry.{Entry}
use Rattle.boards.specs.Board.{board_bytes}
use Rattle.desk.specs.Calls.{Bundle, Call, Fill, Fork, Join, Looks, Preview, Query, Show, Sync, Mark, Drop, Update, Verify, Bill, Yield, entries_of}
use Rattle.desk.specs.Checks.{checks}
use Rattle.desk.proofs.Checks.{Ends, no, yes, ends}
use Rattle.diagram.proofs.Order.Runs.{accepted_both, along, named-run, run_both}
use Rattle.diagram.proofs.Days.Moves.{step-moves, yield-updates}
use Rattle.diagram.proofs.Days.Marking.{Marks, marks-fresh, marks-moves}
use Rattle.diagram.proofs.Days.Naming.{Named}
use Rattle.diagram.specs.Day.{Day, is_given, meant}
use Rattle.diagram.specs.Steps as Steps
use Rattle.diagram.specs.Steps.{Event, Step, after, run, run_from}
use Rattle.diagram.specs.Accepted.{Accepted, AcceptedFrom, accepted}
use Rattle.plain.proofs.Ends.{boxes-pass, drop-accepts, fork-accepts, join-passes, mark-accepts, query-accepts, update-accepts, was_taken, yield-accepts}
use Rattle.plain.proofs.Bundles.{after-bundled, one_never, sent-first, sent-never}
use Rattle.plain.specs.Answers.{Outcome, as_one, asked, bundled, called, day_after, day_from, ending, joined, refused, sent, stepped}
use Rattle.plain.specs.Taken.{Taken, bundle_steps, end_of, step_of, steps_after, steps_from, steps_of}
use Rattle.plain.specs.Record.{PlainDay, fresh_day}

-- how a call ends: taken, or refused with a code above 1 and the day as it was
pub data Fair (p : PlainDay) : Outcome → Type 0 where
  good : {o : Outcome} → o.answer.code ≡ 0 → Fair p o
  bad : (k : ℕ) → 1 < k → Fair p (refused p k)

bundled_fair : (p : PlainDay) (o : Outcome) → (o.answer.code ≡ 1 → ⊥) → Fair p (bundled p o)
bundled_fair p o h =
    cases (eqb o.answer.code 0) (λ q. good {o = bundled p o} (rw q)) (λ q. rw q (bad o.answer.code (let z = eqb-false o.answer.code 0 q in omega arith)))

one_fair : (p : PlainDay) (o : Outcome) → (o.answer.code ≡ 1 → ⊥) → Fair p (as_one p o)
one_fair p o h =
    cases (eqb o.answer.code 0) (λ q. good {o = as_one p o} (rw q (eqb-true o.answer.code 0 q))) (λ q. rw q (bad o.answer.code (let z = eqb-false o.answer.code 0 q in omega arith)))

ending_fair : (p : PlainDay) (c : Call ℕ) → Fair p (ending p c)
unfolding called
ending_fair p (Update c n k bib v) = good refl
ending_fair p (Query c n bib) = good refl
ending_fair p (Yield c room) = good refl
ending_fair p (Fork n) = good refl
ending_fair p (Join n m room) = good refl
ending_fair p (Mark n name) = good refl
ending_fair p (Drop name) = good refl
ending_fair p (Sync m room) = let q = (joined p 0 m).next in one_fair p (called q (Fork 0)) (one_never q (Fork 0) refl)
ending_fair p (Bundle c n batch room) = bundled_fair p (sent p c n (entries_of batch)) (sent-never c n (entries_of batch) p)
ending_fair p (Looks (Show n room)) = good refl
ending_fair p (Looks (Fill n)) = good refl
ending_fair p (Looks (Preview n m bib)) = good refl
ending_fair p (Looks (Verify file)) = good refl
ending_fair p (Looks (Bill member)) = good refl

pub called_fair : (p : PlainDay) (c : Call ℕ) → Fair p (called p c)
unfolding called
called_fair p c = by (ends (refused p) (ending p c) (asked p) refl c)
  where
    by : {o : Outcome} → Ends (checks (asked p) c) (refused p) (ending p c) o → Fair p o
    by (no k h) = bad k h
    by (yes P) = ending_fair p c

-- "Code 1 doesn't arise on it"
not-one : {p : PlainDay} {o : Outcome} → Fair p o → o.answer.code ≡ 1 → ⊥
not-one (good z) e = omega arith
not-one (bad k h) e = omega arith

pub never_one : (p : PlainDay) (c : Call ℕ) → (called p c).answer.code ≡ 1 → ⊥
never_one p c = not-one (called_fair p c)

-- a fork that gives no name starts a box (02, U14)
abbrev pub starts_box : Steps.Step → ℕ
starts_box (Steps.Event c r u) = 0
starts_box (Steps.Yield c) = 0
starts_box (Steps.Fork r none) = 1
starts_box (Steps.Fork r (some name)) = 0
starts_box (Steps.Join a b) = 0
starts_box (Steps.Drop r) = 0

-- what some steps come to, each counted by a function
abbrev pub sum_over : (Step → ℕ) → List Step → ℕ
sum_over f [] = 0
sum_over f (s ∷ ss) = f s + sum_over f ss

pub sum_both : (f : Step → ℕ) (ss ts : List Step) → sum_over f (ss ++ ts) ≡ sum_over f ss + sum_over f ts
sum_both f [] ts = omega arith
sum_both f (s ∷ ss) ts = let z = sum_both f ss ts in omega arith

-- a run of accepted steps from one day to another; no entry changes once it is noted, the choice given to fresh stays, and each box started is counted
pub record RanTo (p q : PlainDay) (ss : List Step) : Type 0 where
  pub accepts : AcceptedFrom p.day ss
  pub same : q.day ≡ run_from p.day ss
  pub more : p.day.updates ≤ q.day.updates
  pub kept : (i : ℕ) → i < p.day.updates → q.entries i ≡ p.entries i
  pub choice : q.single ≡ p.single
  pub boxes : q.started ≡ sum_over starts_box ss + p.started

ran-none : (p : PlainDay) → RanTo p p []
unfolding run_from
ran-none p = record { accepts = tt; same = refl; more = omega arith; kept = λ i l. refl; choice = refl; boxes = omega arith }

ran_both : (p q x : PlainDay) (ss ts : List Step) → RanTo p q ss → RanTo q x ts → RanTo p x (ss ++ ts)
ran_both p q x ss ts R T = record {
  accepts = accepted_both ss ts p.day R.accepts (subst (λ y. AcceptedFrom y ts) R.same T.accepts);
  same = T.same ∙ ap (λ y. run_from y ts) R.same ∙ sym (run_both ss ts p.day);
  more = (let a = R.more in let b = T.more in omega arith);
  kept = λ i l. T.kept i (let a = R.more in omega arith) ∙ R.kept i l;
  choice = T.choice ∙ R.choice;
  boxes = (let a = R.boxes in let b = T.boxes in let z = sum_both starts_box ss ts in omega arith);
}

-- one step
more-after : (y : Day) (s : Step) → y.updates ≤ (after y s).updates
unfolding after
more-after y (Event c r true) = omega arith
more-after y (Event c r false) = omega arith
more-after y (Steps.Yield c) = let z = yield-updates y c (y.open_by c) in omega arith
more-after y (Steps.Fork r name) = omega arith
more-after y (Steps.Join a b) = omega arith
more-after y (Steps.Drop r) = omega arith

ran-one : (p q : PlainDay) (s : Step) → accepted p.day s ≡ true → q.day ≡ after p.day s → ((i : ℕ) → i < p.day.updates → q.entries i ≡ p.entries i) → q.single ≡ p.single → q.started ≡ starts_box s + p.started → RanTo p q (s ∷ [])
unfolding run_from
ran-one p q s a e k f b = record { accepts = (a, tt); same = e; more = rw e (more-after p.day s); kept = k; choice = f; boxes = omega (arith, b) }

ran_step : (p : PlainDay) (s : Step) → accepted p.day s ≡ true → RanTo p (stepped p s (starts_box s)) (s ∷ [])
ran_step p s a = ran-one p (stepped p s (starts_box s)) s a refl (λ i l. refl) refl refl

update-ran : (p : PlainDay) (c n k bib v : ℕ) → (called p (Update c n k bib v)).answer.code ≡ 0 → RanTo p (called p (Update c n k bib v)).next (Event c (meant p.day n) true ∷ [])
update-ran p c n k bib v e =
    let w = was_taken p (Update c n k bib v) e in
    rw w.1 (ran-one p _ (Event c (meant p.day n) true) (update-accepts p c n k bib v w.0) refl (λ i l. changed-other p.entries p.day.updates _ i (λ q. omega arith)) refl (omega arith))

update-bearer : (p : PlainDay) (c n k bib v m : ℕ) → (called p (Update c n k bib v)).answer.code ≡ 0 → meant (called p (Update c n k bib v)).next.day m ≡ meant p.day m
unfolding is_given meant after
update-bearer p c n k bib v m e = ap (λ o. meant o.next.day m) (was_taken p (Update c n k bib v) e).1

-- updates sent, and all taken
pub sent-ran : (c n r : ℕ) (es : List Entry) (p : PlainDay) → meant p.day n ≡ r → (sent p c n es).answer.code ≡ 0 → RanTo p (sent p c n es).next (bundle_steps c r es)
unfolding sent called
sent-ran c n r [] p b z = let w = was_taken p (Yield c board_bytes) z in rw w.1 (ran_step p (Steps.Yield c) (yield-accepts p c board_bytes w.0))
sent-ran c n r (e ∷ es) p b z =
    let f = sent-first c n e es p z in
    let q = (called p (Update c n e.kind e.bib e.v)).next in
    let one = update-ran p c n e.kind e.bib e.v f.0 in
    let rest = sent-ran c n r es q (update-bearer p c n e.kind e.bib e.v n f.0 ∙ b) (sym (ap (λ o. o.answer.code) f.1) ∙ z) in
    subst (λ o. RanTo p o.next (Event c r true ∷ bundle_steps c r es)) (sym f.1) (ran_both p q _ (Event c r true ∷ []) (bundle_steps c r es) (subst (λ i. RanTo p q (Event c i true ∷ [])) b one) rest)

-- a call of two parts, where it is taken
pub after_one : (p : PlainDay) (o : Outcome) → (as_one p o).answer.code ≡ 0 → (o.answer.code ≡ 0) × (as_one p o ≡ o)
after_one p o z = cases (eqb o.answer.code 0) (λ q. (eqb-true _ 0 q, rw q)) (λ q. absurd (eqb-false _ 0 q (rw q at z)))

-- a call that is taken, on a day whose marks are out
taken-ran : (p : PlainDay) → Marks p.day → (c : Call ℕ) → (called p c).answer.code ≡ 0 → RanTo p (called p c).next (step_of p c)
unfolding called is_given meant after
taken-ran p M (Update c n k bib v) e = update-ran p c n k bib v e
taken-ran p M (Query c n bib) e = let w = was_taken p (Query c n bib) e in rw w.1 (ran_step p _ (query-accepts p c n bib w.0))
taken-ran p M (Yield c room) e = let w = was_taken p (Yield c room) e in rw w.1 (ran_step p _ (yield-accepts p c room w.0))
taken-ran p M (Fork n) e = let w = was_taken p (Fork n) e in rw w.1 (ran_step p _ (fork-accepts p n w.0))
taken-ran p M (Join n m room) e = let w = was_taken p (Join n m room) e in rw w.1 (ran_step p _ (join-passes p n m (boxes-pass p n m room w.0)).accepts)
taken-ran p M (Mark n name) e = let w = was_taken p (Mark n name) e in rw w.1 (ran_step p _ (mark-accepts p n name w.0))
taken-ran p M (Drop name) e = let w = was_taken p (Drop name) e in rw w.1 (ran_step p _ (drop-accepts p M name w.0))
taken-ran p M (Sync m room) e =
    let w = was_taken p (Sync m room) e in
    let q = (joined p 0 m).next in
    let b = after_one p (called q (Fork 0)) (rw w.1 at e) in
    let f = was_taken q (Fork 0) b.0 in
    subst (λ o. RanTo p o.next (step_of p (Sync m room))) (sym (w.1 ∙ b.1 ∙ f.1))
    (ran_both p q _ (Steps.Join (meant p.day 0) (meant p.day m) ∷ []) (Steps.Fork (meant p.day 0) none ∷ []) (ran_step p _ (join-passes p 0 m (boxes-pass p 0 m room w.0)).accepts) (ran_step q _ (fork-accepts q 0 f.0)))
taken-ran p M (Bundle c n batch room) e =
    let w = was_taken p (Bundle c n batch room) e in
    let b = after-bundled p (sent p c n (entries_of batch)) (rw w.1 at e) in
    subst (λ o. RanTo p o.next (bundle_steps c (meant p.day n) (entries_of batch))) (sym (w.1 ∙ b.1)) (sent-ran c n (meant p.day n) (entries_of batch) p refl b.0)
taken-ran p M (Looks l) e = rw (was_taken p (Looks l) e).1 (ran-none p)

-- any call
pub did : (p : PlainDay) → Marks p.day → (c : Call ℕ) → RanTo p (called p c).next (steps_of p c)
did p M c = by (called_fair p c) (taken-ran p M c)
  where
    by : {o : Outcome} → Fair p o → (o.answer.code ≡ 0 → RanTo p o.next (step_of p c)) → RanTo p o.next (cond (eqb o.answer.code 0) (step_of p c) [])
    by (good z) f = rw z (f z)
    by (bad k h) f = rw (ne_eqb k 0 (λ e. omega arith)) (ran-none p)

-- marks stay out along a run
marks-ran : {p q : PlainDay} {ss : List Step} → RanTo p q ss → Marks p.day → Marks q.day
marks-ran {p} {q} {ss} R M = subst Marks (sym R.same) (along Marks (λ y s e M. marks-moves y M (after y s) (step-moves y s e)) ss p.day R.accepts M)

pub marks-next : (p : PlainDay) → Marks p.day → (c : Call ℕ) → Marks (called p c).next.day
marks-next p M c = marks-ran (did p M c) M

-- whole lists of calls
pub ran : (cs : List (Call ℕ)) (p : PlainDay) → Marks p.day → RanTo p (day_from p cs) (steps_from p cs)
unfolding steps_from day_from
ran [] p M = ran-none p
ran (c ∷ cs) p M = ran_both p (called p c).next _ (steps_of p c) (steps_from (called p c).next cs) (did p M c) (ran cs (called p c).next (marks-next p M c))

-- a list of calls as a run of accepted steps
pub all_accepted : (single : Bool) (cs : List (Call ℕ)) → Accepted (steps_after single cs)
all_accepted single cs = (ran cs (fresh_day single) marks-fresh).accepts

pub same_day : (single : Bool) (cs : List (Call ℕ)) → end_of single cs ≡ run (steps_after single cs)
unfolding day_after run
same_day single cs = (ran cs (fresh_day single) marks-fresh).same

-- the choice given to fresh is there after every list of calls
pub same_choice : (single : Bool) (cs : List (Call ℕ)) → (day_after single cs).single ≡ single
unfolding day_after
same_choice single cs = (ran cs (fresh_day single) marks-fresh).choice

-- the marks that are there are out
pub marks-after : (single : Bool) (cs : List (Call ℕ)) → Marks (end_of single cs)
unfolding day_after
marks-after single cs = marks-ran (ran cs (fresh_day single) marks-fresh) marks-fresh

-- the numbers of the revisions out are apart
pub named : (single : Bool) (cs : List (Call ℕ)) → Named (end_of single cs)
named single cs = rw (same_day single cs) (named-run (steps_after single cs) (all_accepted single cs))

-- in two parts
pub day_both : (a b : List (Call ℕ)) (p : PlainDay) → day_from p (a ++ b) ≡ day_from (day_from p a) b
unfolding day_from
day_both [] b p = refl
day_both (c ∷ a) b p = day_both a b (called p c).next

-- the day after one call more
pub next_is : (single : Bool) (before : List (Call ℕ)) (c : Call ℕ) → day_after single (before ++ (c ∷ [])) ≡ (called (day_after single before) c).next
unfolding day_after day_from
next_is single before c = day_both before (c ∷ []) (fresh_day single)

pub steps_both : (a b : List (Call ℕ)) (p : PlainDay) → steps_from p (a ++ b) ≡ steps_from p a ++ steps_from (day_from p a) b
unfolding steps_from day_from
steps_both [] b p = refl
steps_both (c ∷ a) b p = ap (λ ss. steps_of p c ++ ss) (steps_both a b (called p c).next) ∙ sym (append_assoc (steps_of p c) (steps_from (called p c).next a) (steps_from (day_from (called p c).next a) b))

-- the steps of a list in which a call c was taken
module _ (single : Bool) (cs before : List (Call ℕ)) (c : Call ℕ) (rest : List (Call ℕ)) (T : Taken single cs before c rest) where
  abbrev p : PlainDay
  p = day_after single before

  pub day_is : day_after single cs ≡ day_from p (c ∷ rest)
  unfolding day_after
  day_is = ap (day_from (fresh_day single)) T.place ∙ day_both before (c ∷ rest) (fresh_day single)

  pub after-steps : steps_after single cs ≡ steps_after single before ++ (steps_of p c ++ steps_from (called p c).next rest)
  unfolding steps_from day_after
  after-steps = ap (steps_after single) T.place ∙ steps_both before (c ∷ rest) (fresh_day single)

  pub taken-steps : (ss : List Step) → step_of p c ≡ ss → steps_after single cs ≡ steps_after single before ++ (ss ++ steps_from (called p c).next rest)
  taken-steps ss q =
      after-steps ∙ ap (λ k. steps_after single before ++ (cond (eqb k 0) (step_of p c) [] ++ steps_from (called p c).next rest)) T.code
      ∙ ap (λ z. steps_after single before ++ (z ++ steps_from (called p c).next rest)) q
