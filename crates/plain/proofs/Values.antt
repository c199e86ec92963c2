-- What the values of a taken fork or mark, of a join and of a fill are.
use Prim.Native.Nat.{ℕ, ◌≤◌}
use mathlib.Core.Bool.{Bool, true, not, true≢false}
use mathlib.Core.Logic.{◌↔◌}
use mathlib.Core.Path.{◌≡◌, refl, sym, ◌∙◌, subst}
use mathlib.Core.Option.{Option, none, some}
use mathlib.Core.List.{List, [], ◌∷◌}
use native.Mathlib.Omega.{arith}
use lib.Dec.{ltb}
use borrow.Author.Tests.{le-ltb, ltb-false, not-false}
use Rattle.lists.specs.Names.{Name}
use Rattle.lists.proofs.Cases.{cases}
use Rattle.lists.proofs.Changed.{changed_same}
use Rattle.desk.specs.Calls.{Call, Fill, Fork, Join, Looks, Mark}
use Rattle.desk.specs.Checks.{Check, Tests, ◌if◌}
use Rattle.desk.proofs.Checks as Rows
use Rattle.desk.proofs.Checks.{Passed, ◌also◌, code-exactly}
use Rattle.diagram.specs.Sizes.{revision_limit}
use Rattle.diagram.specs.Day.{Day, IsIdle, IsOut, is_given, meant, next_number, out_count}
use Rattle.diagram.specs.Checks.{none_left}
use Rattle.diagram.specs.Steps as Steps
use Rattle.diagram.specs.Steps.{after}
use Rattle.diagram.specs.Accepted.{accepted}
use Rattle.diagram.specs.Reuse.{Takes}
use Rattle.diagram.specs.Counts.{OwnUpdates, SeenSince}
use Rattle.diagram.proofs.Days.Moves.{CanFork, can-fork, can-join}
use Rattle.diagram.proofs.Days.Found.{found-means}
use Rattle.diagram.proofs.Days.Naming.{Named, meant-low, meant-new, meant-number, meant-old, next-apart}
use Rattle.diagram.proofs.Order.Growth.{Fine, busy_idle}
use Rattle.diagram.proofs.Order.Reuse.{takes}
use Rattle.diagram.proofs.Order.Runs.{fine_run}
use Rattle.diagram.proofs.Order.Since.{fork_shows, join_gains, own_updates}
use Rattle.plain.specs.Record.{PlainDay}
use Rattle.plain.specs.Answers.{Outcome, asked, called, day_after, ending, forked, own_at, refused}
use Rattle.plain.specs.Allowed.{Meaning, OnLine}
use Rattle.plain.specs.Taken.{end_of, steps_after}
use Rattle.plain.specs.Values.{Filled, Forked, Gained}
use Rattle.plain.proofs.Ends.{Passes, boxes-pass, fork-accepts, given, join-passes, mark-accepts, means, was_taken}
use Rattle.plain.proofs.Exactly.{line_on, on_line}
use Rattle.plain.proofs.Steps.{all_accepted, same_day}

-- 10 of a fork
not_less : (n m : ℕ) → n ≤ m → (not (ltb n m) ≡ true) ↔ (n ≡ m)
not_less n m h = (λ e. cases (ltb n m) (λ l. absurd (true≢false (sym (rw l at e)))) (λ l. let k = ltb-false n m l in omega arith), λ e. rw (le-ltb n m (omega arith)))

abbrev idle_checks : Tests → ℕ → List Check
idle_checks q n = 1 if q.no_table ∷ 3 if q.never n ∷ 4 if q.joined n ∷ 15 if q.off_line n ∷ 7 if q.busy n ∷ []

module _ (single : Bool) (before : List (Call ℕ)) where
  abbrev p : PlainDay
  p = day_after single before

  abbrev y : Day
  y = end_of single before

  fine : Fine y
  fine = subst Fine (sym (same_day single before)) (fine_run (steps_after single before) (all_accepted single before))

  pub fork-none : (n : ℕ) → Named y → ((called p (Fork n)).answer.code ≡ 10) ↔ (Meaning y n (λ r. IsOut y r × IsIdle y r) × OnLine single n × (out_count y ≡ revision_limit))
  unfolding called none_left
  fork-none n N = (
    λ e. let r = exact.0 e in let i = idle r.0 in (i.0, i.1, all.0 r.1),
    λ (M, f, e). exact.1 (refl also given M also M.holds.0.1 also line_on single before n f also (busy_idle y fine (meant y n)).1 M.holds.1 also Rows.none, all.1 e),
  )
    where
      exact : ((called p (Fork n)).answer.code ≡ 10) ↔ (Passed (idle_checks (asked p) n) × (none_left y ≡ true))
      exact = code-exactly (λ (o : Outcome). o.answer.code) (refused p) (λ k. refl) (ending p (Fork n)) (10 if none_left y) (λ e. omega arith) (idle_checks (asked p) n) [] refl refl

      all : (none_left y ≡ true) ↔ (out_count y ≡ revision_limit)
      all = not_less (out_count y) revision_limit (let a = N.counted in let b = N.few in omega arith)

      idle : Passed (idle_checks (asked p) n) → Meaning y n (λ r. IsOut y r × IsIdle y r) × OnLine single n
      idle (e1 also e3 also e4 also e15 also e7 also P) =
          (record { given = not-false (is_given y n) e3; holds = ((meant-low y n (meant y n) (means p n e3), e4), (busy_idle y fine (meant y n)).0 e7) }, on_line single before n e15)

  shows : (r : ℕ) (name : Option Name) → accepted y (Steps.Fork r name) ≡ true
      → SeenSince y.diagram (y.terminal r) (after y (Steps.Fork r name)).diagram ((after y (Steps.Fork r name)).terminal y.revisions) []
  shows r name e =
      subst (λ y. SeenSince y.diagram (y.terminal r) (after y (Steps.Fork r name)).diagram ((after y (Steps.Fork r name)).terminal y.revisions) []) (sym (same_day single before))
      (fork_shows (steps_after single before) (all_accepted single before) r name (subst (λ y. accepted y (Steps.Fork r name) ≡ true) (same_day single before) e))

  pub forks : (n : ℕ) (name : Option Name) (boxes : ℕ) → Named y → accepted y (Steps.Fork (meant y n) name) ≡ true → Forked y n (forked p n name boxes)
  unfolding next_number after
  forks n name boxes N e =
      let C : CanFork y (meant y n) name = can-fork y (meant y n) name e in
      let z = after y (Steps.Fork (meant y n) name) in
      record {
        unused = λ s q. let f = (found-means y _ s).1 q in cases (y.joined s) (λ e. e) (λ e. absurd (next-apart y N _ name C s (meant-low y _ s f, e) (meant-number y _ s f)));
        others = λ k r d. let old = meant-old y N _ name C k d in (λ m. (found-means y k r).0 (sym old ∙ (found-means z k r).1 m), λ m. (found-means z k r).0 (old ∙ (found-means y k r).1 m));
        means = (found-means z _ _).0 (meant-new y N _ name C);
        out = (omega arith, changed_same y.joined y.revisions _);
        shows = shows (meant y n) name e;
      }

  pub fork-value : (n : ℕ) → Named y → (called p (Fork n)).answer.code ≡ 0 → Forked y n (called p (Fork n))
  fork-value n N e = let w = was_taken p (Fork n) e in subst (Forked y n) (sym w.1) (forks n none 1 N (fork-accepts p n w.0))

  -- the number is the one by 02, U7
  forks-take : (n : ℕ) (name : Option Name) → accepted y (Steps.Fork (meant y n) name) ≡ true → Takes (steps_after single before) (next_number y)
  forks-take n name e =
      subst (λ y. Takes (steps_after single before) (next_number y)) (sym (same_day single before))
      (takes (steps_after single before) (all_accepted single before) _ name (subst (λ y. accepted y (Steps.Fork (meant y n) name) ≡ true) (same_day single before) e))

  pub fork-takes : (n : ℕ) → (called p (Fork n)).answer.code ≡ 0 → Takes (steps_after single before) (called p (Fork n)).answer.value
  fork-takes n e = let w = was_taken p (Fork n) e in rw w.1 (forks-take n none (fork-accepts p n w.0))

  pub mark-takes : (n : ℕ) (name : Name) → (called p (Mark n name)).answer.code ≡ 0 → Takes (steps_after single before) (called p (Mark n name)).answer.value
  mark-takes n name e = let w = was_taken p (Mark n name) e in rw w.1 (forks-take n (some name) (mark-accepts p n name w.0))

  -- the own updates of a revision that is out, by paths
  owns : (r : ℕ) → IsOut y r → OwnUpdates y r (own_at y r)
  owns r o = subst (λ y. OwnUpdates y r (own_at y r)) (sym (same_day single before)) (own_updates (steps_after single before) (all_accepted single before) r (rw (same_day single before) at o))

  gains : (a b : ℕ) → accepted y (Steps.Join a b) ≡ true → SeenSince y.diagram (y.terminal a) (after y (Steps.Join a b)).diagram ((after y (Steps.Join a b)).terminal a) (own_at y b)
  gains a b e =
      subst (λ y. SeenSince y.diagram (y.terminal a) (after y (Steps.Join a b)).diagram ((after y (Steps.Join a b)).terminal a) (own_at y b)) (sym (same_day single before))
      (join_gains (steps_after single before) (all_accepted single before) a b (subst (λ y. accepted y (Steps.Join a b) ≡ true) (same_day single before) e))

  pub join-value : (n m room : ℕ) → (called p (Join n m room)).answer.code ≡ 0 → Gained y (meant y n) (meant y m) (called p (Join n m room))
  join-value n m room e =
      let w = was_taken p (Join n m room) e in
      let a = (join-passes p n m (boxes-pass p n m room w.0)).accepts in
      subst (Gained y (meant y n) (meant y m)) (sym w.1) (record { updates = _; gained = gains (meant y n) (meant y m) a; brought = owns (meant y m) (can-join y (meant y n) (meant y m) a).out_b; is = refl })

  fill-out : (n : ℕ) → Passes p (Looks (Fill n)) → IsOut y (meant y n)
  fill-out n (e1 also e3 also e4 also Rows.none) = (meant-low y n (meant y n) (means p n e3), e4)

  pub fill-value : (n : ℕ) → (called p (Looks (Fill n))).answer.code ≡ 0 → Filled y (meant y n) (called p (Looks (Fill n))).answer
  fill-value n e =
      let w = was_taken p (Looks (Fill n)) e in
      subst (λ (o : Outcome). Filled y (meant y n) o.answer) (sym w.1) (record { updates = _; own_updates = owns (meant y n) (fill-out n w.0); is = refl })
