-- What a taken mark and a taken drop are, and what comes of a mark (02, U9).
use Prim.Native.Nat.{ℕ}
use mathlib.Core.Bool.{Bool, true, false, true≢false}
use mathlib.Core.Path.{◌≡◌, refl, sym, ◌∙◌, ap, subst}
use mathlib.Core.Option.{none, some}
use mathlib.Core.List.{List, [], ◌∷◌, ◌++◌, append_assoc, append-nil}
use lib.Dec.{eqb}
use borrow.Author.Tests.{eqb-false, not-false}
use Rattle.lists.specs.Names.{Name}
use Rattle.lists.proofs.Cases.{cases}
use Rattle.lists.proofs.Changed.{changed-other, changed_same}
use Rattle.desk.specs.Calls.{Call, Fork, Join, Sync, Mark, Drop}
use Rattle.desk.proofs.Checks as Rows
use Rattle.desk.proofs.Checks.{◌also◌}
use Rattle.diagram.specs.Day.{Day, IsOut, Means, is_given, is_named, mark_named, meant, number_of, shown_at}
use Rattle.diagram.specs.Checks.{marked, not_joinable}
use Rattle.diagram.specs.Steps as Steps
use Rattle.diagram.specs.Steps.{after, run}
use Rattle.diagram.specs.Accepted.{accepted}
use Rattle.diagram.specs.Marks.{FromMark, StartedAsMark}
use Rattle.diagram.proofs.Days.Accepting.{join-tests}
use Rattle.diagram.proofs.Days.Marking.{is-marked, named-is, none≢name}
use Rattle.diagram.proofs.Days.Moves.{CanJoin, can-fork, can-join}
use Rattle.diagram.proofs.Order.Aside.{aside_run}
use Rattle.diagram.proofs.Order.Constructed.{joinable_iff}
use Rattle.diagram.proofs.Order.Marked.{by_marks}
use Rattle.diagram.proofs.Order.Reuse.{by_numbers}
use Rattle.plain.specs.Record.{PlainDay, fresh_day}
use Rattle.plain.specs.Answers.{called, day_after, ending}
use Rattle.plain.specs.Taken.{Taken, end_of, steps_after, steps_from}
use Rattle.plain.specs.Marks.{DropTaken, MarkTaken, OnMarks}
use Rattle.plain.proofs.Ends.{BoxesPass, Passes, boxes-pass, fork-accepts, join-passes, mark-accepts, was_taken}
use Rattle.plain.proofs.Exactly.{main-means}
use Rattle.plain.proofs.Steps.{all_accepted, marks-after, named, next_is, same_day, steps_both, taken-steps}
use Rattle.plain.proofs.Values.{fork-value, forks}

module _ (single : Bool) (before : List (Call ℕ)) where
  abbrev p : PlainDay
  p = day_after single before

  abbrev y : Day
  y = end_of single before

  pub mark-value : (n : ℕ) (name : Name) → (called p (Mark n name)).answer.code ≡ 0 → MarkTaken y n name (called p (Mark n name))
  unfolding after
  mark-value n name e =
      let w = was_taken p (Mark n name) e in
      subst (MarkTaken y n name) (sym w.1)
      (record {
        forked = forks single before n (some name) 0 (named single before) (mark-accepts p n name w.0);
        named = changed_same y.mark y.revisions (some name);
        others = λ r d. changed-other y.mark y.revisions (some name) r d;
      })

  -- the number of a revision that is out means it
  out-means : (r : ℕ) → IsOut y r → Means y (number_of y r) r
  out-means r o =
      subst (λ y. IsOut y r → Means y (number_of y r) r) (sym (same_day single before)) ((by_numbers (steps_after single before) (all_accepted single before)).out r) o

  in_use : (name : Name) → Passes p (Drop name) → is_named y name ≡ true
  in_use name (e1 also e18 also Rows.none) = not-false _ e18

  dropped : (name : Name) → is_named y name ≡ true → DropTaken y name (ending p (Drop name))
  unfolding after is_given meant
  dropped name u =
      let r = mark_named y name in
      let bore = named-is y name u in
      let M = marks-after single before in
      record {
        revision = r;
        bore = bore;
        means = out-means r (M.out r (is-marked y r name bore));
        joined = changed_same y.joined r true;
        waits = refl;
        diagram = refl;
        others = λ s d. (changed-other y.joined r true s d, changed-other y.mark r none s d);
        answer = refl;
        free = λ s e. cases (eqb s r) (λ q. none≢name (rw q at e)) (λ q. eqb-false s r q (M.apart s r name (rw q at e) bore));
      }

  pub drop-value : (name : Name) → (called p (Drop name)).answer.code ≡ 0 → DropTaken y name (called p (Drop name))
  drop-value name e = let w = was_taken p (Drop name) e in subst (DropTaken y name) (sym w.1) (dropped name (in_use name w.0))

  -- a join into box 0 that passes is of a box that came of no mark
  apart : (m r : ℕ) → BoxesPass p 0 m → StartedAsMark (steps_after single before) r → FromMark y r (meant y m) → ⊥
  apart m r P K seen =
      let ss = steps_after single before in
      let b = meant y m in
      let a = subst (λ a. accepted y (Steps.Join a b) ≡ true) (main-means single before).1 (join-passes p 0 m P).accepts in
      let C : CanJoin (run ss) 0 b = subst (λ y. CanJoin y 0 b) (same_day single before) (can-join y 0 b a) in
      let free = subst (λ y. not_joinable y 0 b ≡ false) (same_day single before) (join-tests y 0 b a).6 in
      let joins = (joinable_iff ss (all_accepted single before) 0 b C.out_a C.out_b).0 free in
      let mark : (b ≡ r) → marked (run ss) b ≡ true =
      λ e. subst (λ b. (run ss).joined b ≡ false → marked (run ss) b ≡ true) (sym e) (aside_run ss (all_accepted single before) r K).is_mark C.out_b.1 in
      (by_marks ss (all_accepted single before)).never_main r b K C.out_b.0 (subst (λ y. FromMark y r b) (same_day single before) seen) (λ e. true≢false (sym (mark e) ∙ C.unmarked_b)) joins

-- nor by a sync: it begins with such a join
pub never_synced : (single : Bool) (before : List (Call ℕ)) (m room r : ℕ) → (called (day_after single before) (Sync m room)).answer.code ≡ 0
    → StartedAsMark (steps_after single before) r → FromMark (end_of single before) r (meant (end_of single before) m) → ⊥
never_synced single before m room r e = apart single before m r (boxes-pass (day_after single before) 0 m room (was_taken (day_after single before) (Sync m room) e).0)

module _ (single : Bool) (cs before middle rest : List (Call ℕ)) (n m : ℕ) (name : Name) (T : Taken single cs before (Mark n name) (middle ++ (Fork m ∷ rest))) where
  abbrev first : List (Call ℕ)
  first = before ++ (Mark n name ∷ [])

  abbrev all : List (Call ℕ)
  all = before ++ (Mark n name ∷ middle)

  -- the mark
  abbrev r : ℕ
  r = (end_of single before).revisions

  joined-list : first ++ middle ≡ all
  joined-list = append_assoc before (Mark n name ∷ []) middle

  -- the steps of the calls up to the fork begin with those up to the mark
  begins : steps_after single all ≡ steps_after single first ++ steps_from (day_after single first) middle
  unfolding day_after
  begins = ap (steps_after single) (sym joined-list) ∙ steps_both first middle (fresh_day single)

  marked-first : marked (run (steps_after single first)) r ≡ true
  marked-first =
      let M = mark-value single before n name T.code in
      subst (λ y. marked y r ≡ true) (same_day single first) (is-marked (end_of single first) r name (ap (λ q. q.day.mark r) (next_is single before (Mark n name)) ∙ M.named))

  -- a mark that is out is one still
  started : StartedAsMark (steps_after single all) r
  started = record {
    before = steps_after single before;
    rest = steps_from (called (day_after single before) (Mark n name)).next middle;
    forked = meant (end_of single before) n;
    name = name;
    is = taken-steps single all before (Mark n name) middle (record { place = refl; code = T.code }) (Steps.Fork (meant (end_of single before) n) (some name) ∷ []) refl;
    starts = ap (λ y. y.revisions) (same_day single before);
  }

  marked-last : (end_of single all).joined r ≡ false → marked (run (steps_after single all)) r ≡ true
  marked-last o = (aside_run (steps_after single all) (all_accepted single all) r started).is_mark (subst (λ y. y.joined r ≡ false) (same_day single all) o)

  listed-still : (end_of single all).joined r ≡ false → shown_at (end_of single all) r ≡ shown_at (end_of single first) r
  listed-still o =
      subst (λ y. shown_at y r ≡ shown_at (end_of single first) r) (sym (same_day single all))
      (subst (λ y. shown_at (run (steps_after single all)) r ≡ shown_at y r) (sym (same_day single first))
      ((by_marks (steps_after single all) (all_accepted single all)).still_later (steps_after single first) _ r begins marked-first (marked-last o)))

  comes_back : Taken single cs all (Fork m) rest → meant (end_of single all) m ≡ r
      → shown_at (called (day_after single all) (Fork m)).next.day (end_of single all).revisions ≡ shown_at (end_of single before) (meant (end_of single before) n)
  comes_back F q =
      let w = was_taken (day_after single all) (Fork m) F.code in
      let o = (can-fork (end_of single all) (meant (end_of single all) m) none (fork-accepts (day_after single all) m w.0)).out.1 in
      (fork-value single all m (named single all) F.code).shows.listed ∙ append-nil _
      ∙ ap (shown_at (end_of single all)) q ∙ listed-still (subst (λ r. (end_of single all).joined r ≡ false) q o)
      ∙ ap (λ p. shown_at p.day r) (next_is single before (Mark n name)) ∙ (mark-value single before n name T.code).forked.shows.listed ∙ append-nil _

pub on_marks : (single : Bool) (cs : List (Call ℕ)) → OnMarks single cs
on_marks single cs = record {
  runs = by_marks (steps_after single cs) (all_accepted single cs);
  comes_back = λ before middle rest n m name T. comes_back single cs before middle rest n m name T;
  never_joined = λ before rest m room r T. apart single before m r (boxes-pass (day_after single before) 0 m room (was_taken (day_after single before) (Join 0 m room) T.code).0);
}
