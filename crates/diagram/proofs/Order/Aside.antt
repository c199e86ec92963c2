-- What comes of a mark stays apart (02, U9): a revision sees the mark's start vertex exactly if its own start vertex does.
use Prim.Native.Nat.{◌<◌, ℕ, suc}
use mathlib.Core.Bool.{Bool, ◌||◌, false, false≢true, or-false, true, true≢false}
use mathlib.Core.Path.{◌∙◌, ◌≡◌, ap, subst, sym}
use mathlib.Core.Option.{Option, none, some}
use mathlib.Core.List.{List, ◌∷◌}
use native.Mathlib.Omega.{arith}
use lib.ListN.{length}
use lib.Dec.{eqb}
use borrow.Author.Tests.{eqb-true, ne_eqb}
use Rattle.lists.specs.Lists.{changed}
use Rattle.lists.specs.Names.{Name}
use Rattle.lists.proofs.Cases.{cases}
use Rattle.lists.proofs.Changed.{changed_same}
use Rattle.diagram.specs.Diagram.{Diagram, Vertex, event, fork, join, sources, start}
use Rattle.diagram.specs.Leads.{any_of, leads}
use Rattle.diagram.specs.Day.{Day}
use Rattle.diagram.specs.Checks.{marked}
use Rattle.diagram.specs.Steps.{Fork, Step, after, drop_at, enter, fork_at, join_into, new_update, run, run_from, yield}
use Rattle.diagram.specs.Accepted.{Accepted, AcceptedFrom}
use Rattle.diagram.specs.Marks.{StartedAsMark}
use Rattle.diagram.proofs.Graph.Paths.{leads_from_newer, leads_old, leads_to_newest, leads_trans}
use Rattle.diagram.proofs.Days.Moves.{CanJoin, Moves, can-fork, drops_of, enters, forks_at, joins_into, not_last, step-moves, yields}
use Rattle.diagram.proofs.Days.Real.{Real}
use Rattle.diagram.proofs.Arranged.Advance.{on-bound}
use Rattle.diagram.proofs.Order.Growth.{Fine}
use Rattle.diagram.proofs.Order.Runs.{accepted_first, accepted_rest, along, fine_run, fine_step, run-append}

-- S is the start vertex of r, which is a mark as long as it is out. Of a revision's terminal, start and fork vertex each sees S if the others do
pub record Aside (S r : ℕ) (y : Day) : Type 0 where
  pub there : r < y.revisions
  pub start : y.start_of r ≡ S
  pub is_mark : y.joined r ≡ false → marked y r ≡ true
  pub by_starts : (x : ℕ) → x < y.revisions → leads y.diagram S (y.terminal x) ≡ leads y.diagram S (y.start_of x)
  pub by_forks : (x : ℕ) → x < y.revisions → (x ≡ r → ⊥) → leads y.diagram S (y.start_of x) ≡ leads y.diagram S (y.fork_of x)
  pub not_main : leads y.diagram S (y.start_of 0) ≡ false

module _ (S r : ℕ) (y : Day) (F : Fine y) (A : Aside S r y) where
  abbrev d : Diagram
  d = y.diagram

  R : Real y F.layout
  R = F.sound.real

  low : S < length d
  low = rw (← A.start) (R.starts_low r)

  -- a vertex that goes on from q's terminal
  module _ (v : Vertex) (q : ℕ) (from : any_of (λ p. leads d S p) (sources v) ≡ leads d S (y.terminal q)) where
    on : (x : ℕ) → leads (v ∷ d) S (changed y.terminal q (length d) x) ≡ leads d S (y.terminal x)
    on x =
        cases (eqb x q)
        (λ e. rw e (leads_to_newest v d S low ∙ from ∙ ap (λ z. leads d S (y.terminal z)) (sym (eqb-true x q e))))
        (λ e. rw e (leads_old v d S (y.terminal x) (R.linked.bound x)))

    starts-on : (x : ℕ) → x < y.revisions → leads (v ∷ d) S (changed y.terminal q (length d) x) ≡ leads (v ∷ d) S (y.start_of x)
    starts-on x h = on x ∙ A.by_starts x h ∙ sym (leads_old v d S (y.start_of x) (R.starts_low x))

    forks-on : (x : ℕ) → x < y.revisions → (x ≡ r → ⊥) → leads (v ∷ d) S (y.start_of x) ≡ leads (v ∷ d) S (y.fork_of x)
    forks-on x h n = leads_old v d S (y.start_of x) (R.starts_low x) ∙ A.by_forks x h n ∙ sym (leads_old v d S (y.fork_of x) (R.forks_low x))

    main-on : leads (v ∷ d) S (y.start_of 0) ≡ false
    main-on = leads_old v d S (y.start_of 0) (R.starts_low 0) ∙ A.not_main

  aside-enter : (c q : ℕ) (u : Bool) → Aside S r (enter y c q u)
  unfolding marked
  aside-enter c q u =
      let v = event (y.terminal q) c (new_update y u) in
      let from = or-false (leads d S (y.terminal q)) in
      record {
        there = A.there;
        start = A.start;
        is_mark = A.is_mark;
        by_starts = starts-on v q from;
        by_forks = forks-on v q from;
        not_main = main-on v q from;
      }

  aside-yield : (c : ℕ) (o : Option ℕ) → Aside S r (yield y c o)
  unfolding marked
  aside-yield c none = A
  aside-yield c (some t) = record {
    there = A.there;
    start = A.start;
    is_mark = A.is_mark;
    by_starts = A.by_starts;
    by_forks = A.by_forks;
    not_main = A.not_main;
  }

  aside-fork : (q : ℕ) (name : Option Name) → Aside S r (fork_at y q name)
  unfolding marked
  aside-fork q name = record {
    there = omega (arith, A.there);
    start = rw r-old A.start;
    is_mark = rw r-old A.is_mark;
    by_starts = λ x h. cases (eqb x n)
        (λ e. rw e)
        (λ e. rw e (later _ (on-bound d fv y.terminal R.linked.bound q x) ∙ starts-on fv q from x (not_last x n h e)
        ∙ sym (later _ (older (R.starts_low x)))));
    by_forks = λ x h m. cases (eqb x n)
        (λ e. rw e (leads_to_newest sv (fv ∷ d) S (older low) ∙ or-false _ ∙ sym (later (length d) (omega arith))))
        (λ e. rw e (later _ (older (R.starts_low x)) ∙ forks-on fv q from x (not_last x n h e) m ∙ sym (later _ (older (R.forks_low x)))));
    not_main = rw (ne_eqb 0 n (λ e. omega (arith, A.there))) (later _ (older (R.starts_low 0)) ∙ main-on fv q from);
  }
    where
      n : ℕ
      n = y.revisions

      fv : Vertex
      fv = fork (y.terminal q)

      sv : Vertex
      sv = start (length d)

      from : any_of (λ p. leads d S p) (sources fv) ≡ leads d S (y.terminal q)
      from = or-false (leads d S (y.terminal q))

      r-old : eqb r n ≡ false
      r-old = ne_eqb r n (λ e. omega (arith, A.there))

      older : {x : ℕ} → x < length d → x < length (fv ∷ d)
      older l = omega arith

      later : (x : ℕ) → x < length (fv ∷ d) → leads (sv ∷ fv ∷ d) S x ≡ leads (fv ∷ d) S x
      later x l = leads_old sv (fv ∷ d) S x l

  -- where the joinee sees S, its fork vertex does, and so does the joiner
  aside-join : (a b : ℕ) → CanJoin y a b → Aside S r (join_into y a b)
  unfolding marked
  aside-join a b H = record {
    there = A.there;
    start = A.start;
    is_mark = cases (eqb r b) (λ e. rw e (λ q. absurd (true≢false q))) (λ e. rw e A.is_mark);
    by_starts = starts-on v a from;
    by_forks = forks-on v a from;
    not_main = main-on v a from;
  }
    where
      v : Vertex
      v = join (y.terminal a) (y.terminal b)

      no-mark : b ≡ r → ⊥
      no-mark e = false≢true (sym H.unmarked_b ∙ ap (marked y) e ∙ A.is_mark (ap y.joined (sym e) ∙ H.out_b.1))

      seen : leads d S (y.terminal b) ≡ true → leads d S (y.terminal a) ≡ true
      seen e =
          let at_fork : leads d S (y.fork_of b) ≡ true = sym (A.by_starts b H.out_b.0 ∙ A.by_forks b H.out_b.0 no-mark) ∙ e in
          leads_trans R.linked.ordered S (y.fork_of b) (y.terminal a) at_fork H.fork_seen

      from : (leads d S (y.terminal a) || (leads d S (y.terminal b) || false)) ≡ leads d S (y.terminal a)
      from = cases (leads d S (y.terminal b)) (λ e. rw (e, seen e)) (λ e. rw e (or-false _))

  aside-drop : (q : ℕ) → Aside S r (drop_at y q)
  unfolding marked
  aside-drop q = record {
    there = A.there;
    start = A.start;
    is_mark = cases (eqb r q) (λ e. rw e (λ z. absurd (true≢false z))) (λ e. rw e A.is_mark);
    by_starts = A.by_starts;
    by_forks = A.by_forks;
    not_main = A.not_main;
  }

  pub aside-moves : (z : Day) → Moves y z → Aside S r z
  aside-moves z (enters c q u E) = aside-enter c q u
  aside-moves z (yields c l) = aside-yield c (y.open_by c)
  aside-moves z (forks_at q name C) = aside-fork q name
  aside-moves z (joins_into a b H) = aside-join a b H
  aside-moves z (drops_of q D) = aside-drop q

-- at its start nothing else sees it
pub aside_new : (y : Day) → Fine y → (q : ℕ) (name : Name) → q < y.revisions → Aside (suc (length y.diagram)) y.revisions (fork_at y q (some name))
unfolding marked
aside_new y F q name l = record {
  there = omega arith;
  start = changed_same y.start_of n S;
  is_mark = λ e. rw (changed_same y.mark n (some name));
  by_starts = λ x h. cases (eqb x n)
      (λ e. rw e)
      (λ e. rw e (unseen _ (on-bound d fv y.terminal R.linked.bound q x) ∙ sym (unseen _ (older (R.starts_low x)))));
  by_forks = λ x h m. cases (eqb x n)
      (λ e. absurd (m (eqb-true x n e)))
      (λ e. rw e (unseen _ (older (R.starts_low x)) ∙ sym (unseen _ (older (R.forks_low x)))));
  not_main = rw (ne_eqb 0 n (λ e. omega arith)) (unseen _ (older (R.starts_low 0)));
}
  where
    d : Diagram
    d = y.diagram

    R : Real y F.layout
    R = F.sound.real

    n : ℕ
    n = y.revisions

    S : ℕ
    S = suc (length d)

    fv : Vertex
    fv = fork (y.terminal q)

    older : {x : ℕ} → x < length d → x < length (fv ∷ d)
    older l = omega arith

    unseen : (x : ℕ) → x < length (fv ∷ d) → leads (start (length d) ∷ fv ∷ d) S x ≡ false
    unseen x l = leads_old (start (length d)) (fv ∷ d) S x l ∙ leads_from_newer (fv ∷ d) S x (omega arith)

-- and so along a run
aside_from : (S r : ℕ) (ss : List Step) (y : Day) → AcceptedFrom y ss → Fine y → Aside S r y → Aside S r (run_from y ss)
aside_from S r ss y A F K =
    (along (λ z. Fine z × Aside S r z) (λ z s e P. (fine_step z s e P.0, aside-moves S r z P.0 P.1 (after z s) (step-moves z s e))) ss y A (F, K)).1

pub aside_run : (ss : List Step) → Accepted ss → (r : ℕ) → StartedAsMark ss r → Aside ((run ss).start_of r) r (run ss)
unfolding after run_from
aside_run ss A r K =
    let s = Fork K.forked (some K.name) in
    let all = subst Accepted K.is A in
    let y = run K.before in
    let F = fine_run K.before (accepted_first K.before (s ∷ K.rest) all) in
    let rest = accepted_rest K.before (s ∷ K.rest) all in
    let C = can-fork y K.forked (some K.name) rest.0 in
    let new = aside_new y F K.forked K.name C.out.0 in
    let last = aside_from _ _ K.rest (after y s) rest.1 (fine_step y s rest.0 F) new in
    let ends : run ss ≡ run_from y (s ∷ K.rest) = ap run K.is ∙ run-append K.before (s ∷ K.rest) in
    let now : Aside (suc (length y.diagram)) r (run ss) = rw (ends, K.starts) last in
    subst (λ S. Aside S r (run ss)) (sym now.start) now
