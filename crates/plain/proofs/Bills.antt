-- A bill is that of the history, and no further call lowers it (02, U14).
use Prim.Native.Nat.{ℕ, ◌≤◌}
use mathlib.Core.Bool.{Bool}
use mathlib.Core.Path.{◌≡◌, refl, sym, ◌∙◌, ap₂, subst}
use mathlib.Core.List.{List, [], ◌∷◌, ◌++◌}
use native.Mathlib.Omega.{arith}
use Rattle.bundles.specs.declared.entry.Entry.{Entry}
use Rattle.bills.specs.Bill.{bill}
use Rattle.bills.proofs.Grows.{bill-grows}
use Rattle.desk.specs.Calls.{Call, Update, Query, Yield, Fork, Join, Sync, Mark, Drop, Bundle, Looks, Bill, entries_of, plainly}
use Rattle.diagram.proofs.Days.Marking.{marks-fresh}
use Rattle.plain.specs.Record.{PlainDay, fresh_day}
use Rattle.plain.specs.Answers.{answers, called, day_after}
use Rattle.plain.specs.Taken.{bundle_steps, step_of, steps_from}
use Rattle.plain.specs.Fills.{codes_of, comes_to}
use Rattle.plain.specs.Bills.{bill_after, bill_in, started_in}
use Rattle.plain.proofs.Steps.{RanTo, day_both, marks-after, ran, starts_box, sum_over}
use Rattle.plain.proofs.Fills.{counted, tallied}

-- a call's steps start as many boxes as it does
bundle_starts : (c r : ℕ) (es : List Entry) → sum_over starts_box (bundle_steps c r es) ≡ 0
bundle_starts c r [] = refl
bundle_starts c r (e ∷ es) = let z = bundle_starts c r es in omega arith

steps_start : (p : PlainDay) (c : Call ℕ) → sum_over starts_box (step_of p c) ≡ (comes_to c).boxes
steps_start p (Update c n k bib v) = refl
steps_start p (Query c n bib) = refl
steps_start p (Yield c room) = refl
steps_start p (Fork n) = refl
steps_start p (Join n m room) = refl
steps_start p (Sync m room) = refl
steps_start p (Mark n name) = refl
steps_start p (Drop name) = refl
steps_start p (Bundle c n batch room) = bundle_starts c _ (entries_of batch)
steps_start p (Looks l) = refl

boxes_counted : (single : Bool) (cs : List (Call ℕ)) → (day_after single cs).started ≡ started_in cs (codes_of (answers single cs))
unfolding day_after answers
boxes_counted single cs = tallied (λ p. p.started) starts_box (λ c. (comes_to c).boxes) (λ p q ss R. let b = R.boxes in omega arith) steps_start cs (fresh_day single) marks-fresh

-- what a bill answers on a day
bill_is : (p : PlainDay) (member : Bool) → (called p (Looks (Bill member))).answer ≡ plainly 0 (bill p.started p.day.updates member) []
unfolding called
bill_is p member = refl

module _ (single : Bool) where
  pub told : (cs : List (Call ℕ)) (member : Bool) → (called (day_after single cs) (Looks (Bill member))).answer ≡ plainly 0 (bill_in cs (codes_of (answers single cs)) member) []
  told cs member = bill_is (day_after single cs) member ∙ ap₂ (λ a u. plainly 0 (bill a u member) []) (boxes_counted single cs) (counted single cs)

  ran_on : (before rest : List (Call ℕ)) → RanTo (day_after single before) (day_after single (before ++ rest)) (steps_from (day_after single before) rest)
  unfolding day_after
  ran_on before rest = subst (λ q. RanTo (day_after single before) q (steps_from (day_after single before) rest)) (sym (day_both before rest (fresh_day single))) (ran rest (day_after single before) (marks-after single before))

  further : (before rest : List (Call ℕ)) (member : Bool) → bill_after single before member ≤ bill_after single (before ++ rest) member
  unfolding called
  further before rest member = let R = ran_on before rest in bill-grows _ _ _ _ member (let b = R.boxes in omega arith) R.more

  pub bills_grow : (cs before rest : List (Call ℕ)) → cs ≡ before ++ rest → (member : Bool) → bill_after single before member ≤ bill_after single cs member
  bills_grow cs before rest place member = subst (λ cs. bill_after single before member ≤ bill_after single cs member) (sym place) (further before rest member)
