-- What a taken sync is, that it never gives 10, and what holds of single-main days (02, U8).
use Prim.Native.Nat.{ℕ, ◌<◌, ◌≤◌}
use mathlib.Core.Bool.{Bool, true, false, not, ◌||◌, true≢false}
use mathlib.Core.Path.{◌≡◌, refl, sym, ◌∙◌, ap, subst}
use mathlib.Core.Option.{none}
use mathlib.Core.List.{List, [], ◌∷◌, ◌++◌, append_assoc}
use native.Mathlib.Omega.{arith}
use lib.Dec.{eqb}
use borrow.Author.Tests.{eqb-false, eqb-true}
use Rattle.lists.specs.Lists.{◌∈◌}
use Rattle.lists.proofs.Cases.{cases, or-false}
use Rattle.lists.proofs.Keep.{in_member}
use Rattle.updates.specs.Kinds.{bad_bib}
use Rattle.bundles.specs.declared.entry.Entry.{Entry}
use Rattle.boards.specs.Board.{is_wrong_board}
use Rattle.desk.specs.Calls.{Call, Update, Query, Yield, Fork, Join, Sync, Mark, Drop, Bundle, Looks, Preview, entries_of}
use Rattle.desk.specs.Checks.{Check, Tests, ◌if◌, checks}
use Rattle.desk.proofs.Checks.{Passed, Settled, ◌also◌, code-exactly, goes, numbers_of, settled, stops, stops-after}
use Rattle.diagram.specs.Day.{Day, IsOut, is_given, meant}
use Rattle.diagram.specs.Checks.{not_joinable}
use Rattle.diagram.specs.Steps as Steps
use Rattle.diagram.specs.Steps.{Event, Step, next_vertex, run}
use Rattle.diagram.specs.Single.{VisibleTo}
use Rattle.diagram.proofs.Days.Naming.{meant-low, meant-number}
use Rattle.diagram.proofs.Order.Reuse.{by_numbers}
use Rattle.diagram.proofs.Order.Single.{SingleMain, single_both, sync, syncs_are_seen}
use Rattle.machine.proofs.Follow.Single.{main-joins}
use Rattle.plain.specs.Record.{PlainDay}
use Rattle.plain.specs.Answers.{Outcome, as_one, asked, called, day_after, day_from, ending, joined, refused}
use Rattle.plain.specs.Allowed.{Allowed}
use Rattle.plain.specs.Taken.{Taken, bundle_steps, end_of, step_of, steps_after, steps_from, steps_of}
use Rattle.plain.specs.Syncs.{OnSingleMain, Synced}
use Rattle.plain.proofs.Ends.{boxes-pass, means, was_taken}
use Rattle.plain.proofs.Exactly.{exactly, main-means, on_line, passed_is, sync-ends, sync-forks}
use Rattle.plain.proofs.Steps.{all_accepted, next_is, same_day, taken-steps}

abbrev code_of : Outcome → ℕ
code_of o = o.answer.code

module _ (single : Bool) (before : List (Call ℕ)) (m room : ℕ) where
  abbrev p : PlainDay
  p = day_after single before

  pub sync-is : (called p (Sync m room)).answer.code ≡ 0 → Synced p m room (called p (Sync m room))
  sync-is e =
      let w = was_taken p (Sync m room) e in
      let join = passed_is p (Join 0 m room) w.0 in
      record { joins = ap code_of join; is = w.1 ∙ sync-ends single before m (boxes-pass p 0 m room w.0) ∙ ap (λ o. called o.next (Fork 0)) (sym join) }

  -- its row has no 10, and where the row passes it is taken
  pub never_ten : (called p (Sync m room)).answer.code ≡ 10 → ⊥
  unfolding called
  never_ten = by (settled (refused p) (ending p (Sync m room)) (checks (asked p) (Sync m room)))
    where
      by : {o : Outcome} → Settled (checks (asked p) (Sync m room)) (refused p) (ending p (Sync m room)) o → o.answer.code ≡ 10 → ⊥
      by (stops k i) e = true≢false (sym (in_member 10 (numbers_of (checks (asked p) (Sync m room))) (subst (λ n. n ∈ numbers_of (checks (asked p) (Sync m room))) e i)))
      by (goes P) e =
          let boxes = boxes-pass p 0 m room P in
          let z = ap code_of (sync-ends single before m boxes ∙ passed_is (joined p 0 m).next (Fork 0) (sync-forks single before m boxes)) in
          omega arith

-- the steps of a single-main day come from the main revision and go back to it
events_line : (c r : ℕ) (es : List Entry) → SingleMain (bundle_steps c r es)
events_line c r [] = (tt, tt)
events_line c r (e ∷ es) = (tt, events_line c r es)

module _ (before : List (Call ℕ)) where
  abbrev p1 : PlainDay
  p1 = day_after true before

  abbrev y : Day
  y = end_of true before

  is-main : (n : ℕ) → n ≡ 0 → meant y n ≡ 0
  is-main n e = ap (meant y) e ∙ (main-means true before).1

  step_line : (c : Call ℕ) → Allowed true before c → SingleMain (step_of p1 c)
  step_line (Update c n k bib v) A = (tt, tt)
  step_line (Query c n bib) A = (tt, tt)
  step_line (Yield c room) A = (tt, tt)
  step_line (Fork n) A = ((is-main n (A.1 refl), refl), tt)
  step_line (Join n m room) A = (is-main n (A.0.1 refl), tt)
  step_line (Sync m room) A = (is-main 0 refl, ((is-main 0 refl, refl), tt))
  step_line (Mark n name) A = absurd (true≢false A.1)
  step_line (Drop name) A = (tt, tt)
  step_line (Bundle c n batch room) A = events_line c _ (entries_of batch)
  step_line (Looks l) A = tt

  steps-line : (c : Call ℕ) → SingleMain (steps_of p1 c)
  steps-line c = cases (eqb (called p1 c).answer.code 0) (λ e. rw e (step_line c ((exactly true before c).0 (eqb-true _ 0 e)))) (λ e. rw e tt)

line_from : (cs before : List (Call ℕ)) → SingleMain (steps_from (day_after true before) cs)
unfolding steps_from
line_from [] before = tt
line_from (c ∷ cs) before = single_both (steps_of (day_after true before) c) _ (steps-line before c) (subst (λ q. SingleMain (steps_from q cs)) (next_is true before c) (line_from cs (before ++ (c ∷ []))))

single_steps : (cs : List (Call ℕ)) → SingleMain (steps_after true cs)
unfolding day_after day_from
single_steps cs = line_from cs []

-- the checks of a join's boxes up to 11
abbrev first_checks : Tests → ℕ → ℕ → List Check
first_checks q n m = 3 if (q.never n || q.never m) ∷ 4 if (q.joined n || q.joined m) ∷ 15 if q.off_line n ∷ 16 if (q.marked n || q.marked m)
    ∷ 7 if (q.busy n || q.busy m) ∷ []

-- with those before them, in the row of a join or a sync
abbrev lent_checks : Tests → ℕ → ℕ → ℕ → List Check
lent_checks q n m room = 1 if q.no_table ∷ 19 if is_wrong_board room ∷ first_checks q n m

module _ (before : List (Call ℕ)) (n m : ℕ) where
  abbrev p2 : PlainDay
  p2 = day_after true before

  abbrev z : Day
  z = end_of true before

  -- where only 11 is left, the joinee is box 0
  only-main : Passed (first_checks (asked p2) n m) × (not_joinable z (meant z n) (meant z m) ≡ true) → m ≡ 0
  only-main (e3 also e4 also e15 also P, u) =
      let ss = steps_after true before in
      let f = means p2 m (or-false (not (is_given z n)) _ e3).1 in
      let out : IsOut z (meant z m) = (meant-low z m (meant z m) f, (or-false (z.joined (meant z n)) _ e4).1) in
      let at : not_joinable z 0 (meant z m) ≡ true = subst (λ r. not_joinable z r (meant z m) ≡ true) (is-main before n (on_line true before n e15 refl)) u in
      let may = subst (λ y. (b : ℕ) → IsOut y b → (b ≡ 0 → ⊥) → not_joinable y 0 b ≡ false) (sym (same_day true before)) (main-joins ss (all_accepted true before) (single_steps before)) in
      let main = subst (λ y. y.numbering.of 0 ≡ 0) (sym (same_day true before)) (by_numbers ss (all_accepted true before)).main in
      cases (eqb (meant z m) 0)
      (λ q. sym (meant-number z m (meant z m) f) ∙ ap z.numbering.of (eqb-true _ 0 q) ∙ main)
      (λ q. absurd (true≢false (sym at ∙ may (meant z m) out (eqb-false _ 0 q))))

  lent-main : (room : ℕ) → Passed (lent_checks (asked p2) n m room) × (not_joinable z (meant z n) (meant z m) ≡ true) → m ≡ 0
  lent-main room (e1 also e19 also P, u) = only-main (P, u)

  preview-main : Passed (1 if false ∷ first_checks (asked p2) n m) × (not_joinable z (meant z n) (meant z m) ≡ true) → m ≡ 0
  preview-main (e1 also P, u) = only-main (P, u)

  join_eleven : (room : ℕ) → (called p2 (Join n m room)).answer.code ≡ 11 → m ≡ 0
  unfolding called
  join_eleven room e =
      lent-main room
      ((code-exactly code_of (refused p2) (λ k. refl) (ending p2 (Join n m room)) (11 if not_joinable z (meant z n) (meant z m)) (λ q. omega arith) (lent_checks (asked p2) n m room) [] refl refl).0 e)

  preview_eleven : (bib : ℕ) → (called p2 (Looks (Preview n m bib))).answer.code ≡ 11 → m ≡ 0
  unfolding called
  preview_eleven bib e =
      preview-main
      ((code-exactly code_of (refused p2) (λ k. refl) (ending p2 (Looks (Preview n m bib))) (11 if not_joinable z (meant z n) (meant z m)) (λ q. omega arith) (1 if false ∷ first_checks (asked p2) n m) (5 if bad_bib bib ∷ []) refl refl).0 e)

-- a call of two parts has the code of the part that ends it
one_code : (p : PlainDay) (o : Outcome) → (as_one p o).answer.code ≡ o.answer.code
one_code p o = cases (eqb o.answer.code 0) (λ e. rw e) (λ e. rw e)

-- a fork has no 11
sync_eleven : (before : List (Call ℕ)) (m room : ℕ) → (called (day_after true before) (Sync m room)).answer.code ≡ 11 → m ≡ 0
unfolding called
sync_eleven before m room e =
    lent-main before 0 m room ((code-exactly code_of (refused p) (λ k. refl) (ending p (Sync m room)) (11 if not_joinable p.day (meant p.day 0) (meant p.day m)) no_other (lent_checks (asked p) 0 m room) [] refl refl).0 e)
  where
    p : PlainDay
    p = day_after true before

    q : PlainDay
    q = (joined p 0 m).next

    no_other : (ending p (Sync m room)).answer.code ≡ 11 → ⊥
    no_other f = stops-after code_of (refused q) (λ k. refl) (ending q (Fork 0)) (11 if false) (λ g. omega arith) (checks (asked q) (Fork 0)) refl (sym (one_code p (called q (Fork 0))) ∙ f)

module _ (cs before rest : List (Call ℕ)) (m room : ℕ) (T : Taken true cs before (Sync m room) rest) where
  abbrev p3 : PlainDay
  p3 = day_after true before

  abbrev b : ℕ
  b = meant (end_of true before) m

  seen : (early middle : List Step) (c : ℕ) (u : Bool) → steps_after true before ≡ early ++ (Event c b u ∷ middle)
      → (r : ℕ) → (end_of true before).revisions ≤ r → r < (end_of true cs).revisions → VisibleTo (end_of true cs) r (next_vertex early)
  seen early middle c u place r l k =
      let more = steps_from (called p3 (Sync m room)).next rest in
      let main : step_of p3 (Sync m room) ≡ sync b = ap (λ a. Steps.Join a b ∷ Steps.Fork a none ∷ []) (is-main before 0 refl) in
      let whole : steps_after true cs ≡ early ++ (Event c b u ∷ (middle ++ (sync b ++ more))) =
      taken-steps true cs before (Sync m room) rest T (sync b) main ∙ ap (λ ss. ss ++ (sync b ++ more)) place ∙ append_assoc early (Event c b u ∷ middle) (sync b ++ more) in
      let l1 = subst (λ y. y.revisions ≤ r) (same_day true before ∙ ap run place) l in
      let k1 = subst (λ y. r < y.revisions) (same_day true cs) k in
      subst (λ y. VisibleTo y r (next_vertex early)) (sym (same_day true cs)) (syncs_are_seen (steps_after true cs) (all_accepted true cs) (single_steps cs) early middle more c b u whole r l1 k1)

pub on_single_main : (cs : List (Call ℕ)) → OnSingleMain cs
on_single_main cs = record {
  join_eleven = λ before rest n m room place. join_eleven before n m room;
  sync_eleven = λ before rest m room place. sync_eleven before m room;
  preview_eleven = λ before rest n m bib place. preview_eleven before n m bib;
  seen = seen cs;
}
