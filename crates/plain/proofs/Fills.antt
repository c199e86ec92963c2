-- What fills tell adds up to the updates accepted, after every list of calls (02, U1).
use Prim.Native.Nat.{ℕ, ◌+◌, ◌≤◌}
use mathlib.Core.Bool.{Bool, cond, false, true, not}
use mathlib.Core.Path.{◌≡◌, refl, ◌∙◌, ap, ap₂}
use mathlib.Core.Option.{Option, none, some}
use mathlib.Core.List.{List, [], ◌∷◌}
use native.Mathlib.Omega.{arith}
use lib.Dec.{eqb}
use lib.ListN.{length}
use Rattle.lists.proofs.Cases.{cases}
use Rattle.lists.specs.Sums.{sum_below}
use Rattle.lists.proofs.Sums.{sum_same}
use Rattle.bundles.specs.declared.entry.Entry.{Entry}
use Rattle.desk.specs.Calls.{Call, Update, Query, Yield, Fork, Join, Sync, Mark, Drop, Bundle, Looks, Fill, entries_of, level}
use Rattle.desk.specs.Checks.{◌if◌, settle}
use Rattle.diagram.specs.Summed.{OwnAddsUp, own_if_out}
use Rattle.diagram.specs.Day.{Day}
use Rattle.diagram.proofs.Days.Found.{found, given-found, meant-found, or_main}
use Rattle.diagram.specs.Checks.{is_some}
use Rattle.diagram.specs.Steps as Steps
use Rattle.diagram.specs.Steps.{Event, Step, after, run_from}
use Rattle.diagram.proofs.Days.Moves.{yield-updates}
use Rattle.diagram.proofs.Days.Marking.{Marks, marks-fresh}
use Rattle.diagram.proofs.Days.Naming.{Named, count_for, earlier_in, not-meant, sum-latest}
use Rattle.diagram.proofs.Order.Counted.{own-adds_up}
use Rattle.plain.specs.Record.{PlainDay, fresh_day}
use Rattle.plain.specs.Answers.{answers, answers_from, called, day_after, day_from, own_at, refused}
use Rattle.plain.specs.Fills.{FillsAddUp, accepted_in, codes_of, enters, tally}
use Rattle.plain.specs.Taken.{bundle_steps, step_of, steps_after, steps_of}
use Rattle.plain.proofs.Ends.{was_taken}
use Rattle.plain.proofs.Steps.{RanTo, all_accepted, did, marks-next, named, same_day, sum_over}

-- the updates among some steps
abbrev one : Step → ℕ
one (Event c r true) = 1
one (Event c r false) = 0
one (Steps.Yield c) = 0
one (Steps.Fork r name) = 0
one (Steps.Join a b) = 0
one (Steps.Drop r) = 0

abbrev updates_in : List Step → ℕ
updates_in ss = sum_over one ss

after_one : (y : Day) (s : Step) → (after y s).updates ≡ y.updates + one s
unfolding after
after_one y (Event c r true) = omega arith
after_one y (Event c r false) = omega arith
after_one y (Steps.Yield c) = let z = yield-updates y c (y.open_by c) in omega arith
after_one y (Steps.Fork r name) = omega arith
after_one y (Steps.Join a b) = omega arith
after_one y (Steps.Drop r) = omega arith

run-updates : (ss : List Step) (y : Day) → (run_from y ss).updates ≡ y.updates + updates_in ss
unfolding run_from
run-updates [] y = omega arith
run-updates (s ∷ ss) y = let a = after_one y s in let b = run-updates ss (after y s) in omega arith

-- a call's steps have as many as it enters
bundle_enters : (c r : ℕ) (es : List Entry) → updates_in (bundle_steps c r es) ≡ length es
bundle_enters c r [] = refl
bundle_enters c r (e ∷ es) = let z = bundle_enters c r es in omega arith

steps_enter : (p : PlainDay) (c : Call ℕ) → updates_in (step_of p c) ≡ enters c
steps_enter p (Update c n k bib v) = refl
steps_enter p (Query c n bib) = refl
steps_enter p (Yield c room) = refl
steps_enter p (Fork n) = refl
steps_enter p (Join n m room) = refl
steps_enter p (Sync m room) = refl
steps_enter p (Mark n name) = refl
steps_enter p (Drop name) = refl
steps_enter p (Bundle c n batch room) = bundle_enters c _ (entries_of batch)
steps_enter p (Looks l) = refl

-- a number of the day that each call taken raises by what `counts` says of it is a tally of the history
module _ (f : PlainDay → ℕ) (g : Step → ℕ) (counts : Call ℕ → ℕ) (raised : (p q : PlainDay) (ss : List Step) → RanTo p q ss → f q ≡ f p + sum_over g ss) (each : (p : PlainDay) (c : Call ℕ) → sum_over g (step_of p c) ≡ counts c) where
  if-taken : (b : Bool) (ss : List Step) → sum_over g (cond b ss []) ≡ cond b (sum_over g ss) 0
  if-taken true ss = refl
  if-taken false ss = refl

  raises : (p : PlainDay) → Marks p.day → (c : Call ℕ) → f (called p c).next ≡ f p + cond (eqb (called p c).answer.code 0) (counts c) 0
  raises p M c =
      raised p (called p c).next (steps_of p c) (did p M c)
      ∙ ap (λ k. f p + k) (if-taken (eqb (called p c).answer.code 0) (step_of p c) ∙ ap (λ k. cond (eqb (called p c).answer.code 0) k 0) (each p c))

  pub tallied : (cs : List (Call ℕ)) (p : PlainDay) → Marks p.day → f (day_from p cs) ≡ f p + tally counts cs (codes_of (answers_from p cs))
  unfolding day_from answers_from tally
  tallied [] p M = omega arith
  tallied (c ∷ cs) p M = let a = raises p M c in let b = tallied cs (called p c).next (marks-next p M c) in omega arith

-- the updates taken, by one call
run_raises : (p q : PlainDay) (ss : List Step) → RanTo p q ss → q.day.updates ≡ p.day.updates + updates_in ss
run_raises p q ss R = ap (λ y. y.updates) R.same ∙ run-updates ss p.day

pub adds : (p : PlainDay) → Marks p.day → (c : Call ℕ) → (called p c).next.day.updates ≡ p.day.updates + cond (eqb (called p c).answer.code 0) (enters c) 0
adds = raises (λ p. p.day.updates) one enters run_raises steps_enter

nothing-before : (n : ℕ) → 0 + n ≡ n
nothing-before n = omega arith

pub counted : (single : Bool) (cs : List (Call ℕ)) → (day_after single cs).day.updates ≡ accepted_in cs (codes_of (answers single cs))
unfolding day_after answers
counted single cs =
    tallied (λ p. p.day.updates) one enters run_raises steps_enter cs (fresh_day single) marks-fresh
    ∙ nothing-before (accepted_in cs (codes_of (answers_from (fresh_day single) cs)))

-- a fill tells what the revision that the number means, if it is out, has of its own; of a number not given out nothing
abbrev told_by : PlainDay → Bool → ℕ → ℕ
told_by p g r = (settle (3 if not g ∷ 4 if p.day.joined r ∷ []) (refused p) (record { next = p; answer = level (length (own_at p.day r)) p.day.updates [] })).answer.value

fill_is : (p : PlainDay) (n : ℕ) → (called p (Looks (Fill n))).answer.value ≡ count_for (own_if_out p.day) (found p.day n)
unfolding called
fill_is p n = ap₂ (told_by p) (given-found p.day n) (meant-found p.day n) ∙ by (found p.day n)
  where
    by : (q : Option ℕ) → told_by p (is_some q) (or_main q) ≡ count_for (own_if_out p.day) q
    by none = refl
    by (some r) = cases (p.day.joined r) (λ e. rw e) (λ e. rw e)

pub no-fill : (p : PlainDay) → Named p.day → (n : ℕ) → p.day.numbering.given ≤ n → (called p (Looks (Fill n))).answer.value ≡ 0
no-fill p N n l = fill_is p n ∙ ap (count_for (own_if_out p.day)) (not-meant p.day N n l)

-- summed over the numbers given out, that is the own updates summed over the revisions
over-numbers : (y : Day) → Named y → sum_below y.numbering.given (λ n. count_for (own_if_out y) (found y n)) ≡ sum_below y.revisions (own_if_out y)
unfolding found
over-numbers y N = sum-latest y.numbering.of (own_if_out y) y.numbering.given y.revisions N.low (λ s r k l e. rw (earlier_in y N s r k l e))

adds_up : (single : Bool) (cs : List (Call ℕ)) → OwnAddsUp (day_after single cs).day
adds_up single cs = rw (same_day single cs) (own-adds_up (steps_after single cs) (all_accepted single cs))

pub fills_add_up : (single : Bool) (cs : List (Call ℕ)) → FillsAddUp single cs
fills_add_up single cs = record {
  sum = sum_same p.day.numbering.given _ _ (λ n l. fill_is p n) ∙ over-numbers p.day (named single cs) ∙ adds_up single cs ∙ counted single cs;
  total = λ n e. ap (λ o. o.answer.total) (was_taken p (Looks (Fill n)) e).1 ∙ counted single cs;
}
  where
    p : PlainDay
    p = day_after single cs
