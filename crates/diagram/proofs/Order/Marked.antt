-- Every run of accepted steps goes by the rules for marks (02, U9).
use Prim.Native.Nat.{◌<◌, ℕ}
use mathlib.Core.Bool.{false≢true, true}
use mathlib.Core.Path.{◌∙◌, ◌≡◌, ap, subst, sym}
use mathlib.Core.Logic.{◌↔◌}
use mathlib.Core.Option.{some}
use mathlib.Core.List.{List, [], ◌++◌, append-nil}
use native.Mathlib.Omega.{arith}
use lib.Dec.{eqb}
use borrow.Author.Tests.{eqb-false, eqb-true}
use Rattle.lists.proofs.Cases.{cases}
use Rattle.lists.proofs.Names.{four-letters}
use Rattle.diagram.specs.Checks.{marked}
use Rattle.diagram.specs.Construction.{Joinable}
use Rattle.diagram.specs.Effects.{fork_vertex}
use Rattle.diagram.specs.Views.{own, view}
use Rattle.diagram.specs.Day.{Day, mark_named, shown_at}
use Rattle.diagram.specs.Diagram.{HasPath}
use Rattle.diagram.specs.Leads.{leads}
use Rattle.diagram.specs.Arbitration.{Sees}
use Rattle.diagram.specs.Steps.{Drop, Step, run, run_from}
use Rattle.diagram.specs.Accepted.{Accepted}
use Rattle.diagram.specs.Marks.{ByMarks, FromMark, StartedAsMark}
use Rattle.diagram.proofs.Graph.Paths.{leads_path, path_leads, path_trans}
use Rattle.diagram.proofs.Days.Dropping.{none_open, unwritten}
use Rattle.diagram.proofs.Days.Marking.{Marks, drop-accepts, name-means}
use Rattle.diagram.proofs.Days.Real.{Real}
use Rattle.diagram.proofs.Days.Sound.{same_some, some≢none}
use Rattle.diagram.proofs.Order.Aside.{Aside, aside_run}
use Rattle.diagram.proofs.Order.Growth.{Fine, view_stays}
use Rattle.diagram.proofs.Order.Lawful.{taken_exactly}
use Rattle.diagram.proofs.Order.Reuse.{stays_from}
use Rattle.diagram.proofs.Order.Runs.{accepted_first, accepted_rest, fine_run, marks-run, older_from, run-append}
use Rattle.diagram.proofs.Order.Since.{own_updates}

module _ (ss : List Step) (A : Accepted ss) where
  abbrev y : Day
  y = run ss

  F : Fine y
  F = fine_run ss A

  R : Real y F.layout
  R = F.sound.real

  M : Marks y
  M = marks-run ss A

  nothing-own : (r : ℕ) → marked y r ≡ true → own y.diagram (y.terminal r) ≡ []
  nothing-own r e = unwritten y F.layout F.hold F.sound r e (M.out r e)

  still : (r : ℕ) → marked y r ≡ true → shown_at y r ≡ view y.diagram (y.start_of r)
  still r e = (own_updates ss A r (M.out r e)).listed ∙ ap (λ t. view y.diagram (y.start_of r) ++ t) (nothing-own r e) ∙ append-nil _

  -- of revision b, which is not the main one, the fork vertex is the day's
  fork-is : (b f : ℕ) → b < y.revisions → fork_vertex y.diagram (y.terminal b) ≡ some f → f ≡ y.fork_of b
  fork-is b f l e =
      cases (eqb b 0)
      (λ q. absurd (some≢none _ e (ap (λ z. fork_vertex y.diagram (y.terminal z)) (eqb-true b 0 q) ∙ R.main)))
      (λ q. same_some (sym e ∙ R.forks b l (eqb-false b 0 q)))

  module _ (r : ℕ) (K : StartedAsMark ss r) where
    I : Aside (y.start_of r) r y
    I = aside_run ss A r K

    -- paths from the mark's start vertex, by the test
    path : (x : ℕ) → leads y.diagram (y.start_of r) x ≡ true → Sees y x (y.start_of r)
    path x = leads_path y.diagram (y.start_of r) x

    test : (x : ℕ) → Sees y x (y.start_of r) → leads y.diagram (y.start_of r) x ≡ true
    test x = path_leads R.linked.ordered

    by_starts : (x : ℕ) → x < y.revisions → Sees y (y.terminal x) (y.start_of r) ↔ FromMark y r x
    by_starts x l = let e = I.by_starts x l in (λ p. path _ (sym e ∙ test _ p), λ p. path _ (e ∙ test _ p))

    among : (a b : ℕ) → a < y.revisions → b < y.revisions → FromMark y r b → (b ≡ r → ⊥) → Joinable y.diagram (y.terminal a) (y.terminal b) → FromMark y r a
    among a b la lb p n J =
        let at_Fork = path (y.fork_of b) (sym (I.by_forks b lb n) ∙ test _ p) in
        let seen = subst (λ f. HasPath y.diagram f (y.terminal a)) (fork-is b J.started_by lb J.is_fork) J.fork_seen in
        (by_starts a la).0 (path_trans at_Fork seen)

    never_main : (b : ℕ) → b < y.revisions → FromMark y r b → (b ≡ r → ⊥) → Joinable y.diagram (y.terminal 0) (y.terminal b) → ⊥
    never_main b l p n J = false≢true (sym I.not_main ∙ test _ (among 0 b (omega (arith, I.there)) l p n J))

still_later : (ss : List Step) → Accepted ss → (before rest : List Step) (r : ℕ) → ss ≡ before ++ rest
    → marked (run before) r ≡ true → marked (run ss) r ≡ true → shown_at (run ss) r ≡ shown_at (run before) r
still_later ss A before rest r q m n =
    let B = subst Accepted q A in
    let first = accepted_first before rest B in
    let F = fine_run before first in
    let ends : run ss ≡ run_from (run before) rest = ap run q ∙ run-append before rest in
    let o = (marks-run before first).out r m in
    let start = ap (λ z. z.start_of r) ends ∙ (stays_from rest (run before)).start r o.0 in
    let shown = ap (λ z. view z.diagram ((run before).start_of r)) ends
    ∙ view_stays (older_from rest (run before) (accepted_rest before rest B)) ((run before).start_of r) (F.sound.real.starts_low r) in
    still ss A r n ∙ ap (view (run ss).diagram) start ∙ shown ∙ sym (still before first r m)

pub by_marks : (ss : List Step) → Accepted ss → ByMarks ss
by_marks ss A =
    let F = fine_run ss A in
    let M = marks-run ss A in
    record {
      means = name-means (run ss) M;
      drops = λ n e. (taken_exactly ss A (Drop (mark_named (run ss) n))).0 (drop-accepts (run ss) M n e);
      letters = λ r n e. (four-letters n).0 (M.letters r n e);
      out = M.out;
      idle = λ r e b. none_open (run ss) F.layout F.hold F.sound r e b.0 b.1 b.2 b.3;
      still = still ss A;
      still_later = still_later ss A;
      by_starts = λ r x K. by_starts ss A r K x;
      among = λ r a b K. among ss A r K a b;
      never_main = λ r b K. never_main ss A r K b;
    }
