-- On every run of accepted steps the numbers that revisions bear go by 02, U7.
use Prim.Native.Nat.{◌<◌, ◌≤◌, suc, zero, ℕ}
use mathlib.Core.Bool.{true}
use mathlib.Core.Path.{◌∙◌, ◌≡◌, ap, refl, subst, sym}
use mathlib.Core.Option.{Option, none, some}
use mathlib.Core.List.Memᴰ
use mathlib.Core.List.{List, [], ◌++◌, ◌∷◌}
use native.Mathlib.Omega.{arith}
use lib.Dec.{eqb, ltb}
use borrow.Author.Tests.{eqb-false, ltb-false, ltb-true}
use Rattle.lists.proofs.Cases.{cases}
use Rattle.lists.proofs.Changed.{changed-other}
use Rattle.lists.specs.Names.{Name}
use Rattle.diagram.specs.Sizes.{revision_limit}
use Rattle.diagram.specs.Numbering.{next}
use Rattle.diagram.specs.Day.{Day, fresh, next_number, number_of, out_count}
use Rattle.diagram.specs.Steps.{Drop, Event, Fork, Join, Step, Yield, after, fork_at, run, run_from, yield}
use Rattle.diagram.specs.Accepted.{Accepted, accepted}
use Rattle.diagram.specs.Reuse.{Bears, ByNumbers, Takes, Used, longest_ago, never_used, waiting}
use Rattle.diagram.proofs.Days.Found.{found, found-means, searched}
use Rattle.diagram.proofs.Days.Moves.{can-fork}
use Rattle.diagram.proofs.Days.Naming.{Named, latest_bore, latest_last, meant-low, meant-number, named-fresh, number_new}
use Rattle.diagram.proofs.Days.Sound.{some≢none}
use Rattle.diagram.proofs.Days.Waiting.{first_waits, waits_from}
use Rattle.diagram.proofs.Order.Runs.{accepted_first, accepted_rest, named-run, run-append}

-- a revision's number and its start vertex stay
pub record Stays (y z : Day) : Type 0 where
  pub more : y.revisions ≤ z.revisions
  pub number : (r : ℕ) → r < y.revisions → number_of z r ≡ number_of y r
  pub start : (r : ℕ) → r < y.revisions → z.start_of r ≡ y.start_of r

pub stays_step : (y : Day) (s : Step) → Stays y (after y s)
unfolding after
stays_step y (Event c r u) = record { more = omega arith; number = λ s l. refl; start = λ s l. refl }
stays_step y (Yield c) = by (y.open_by c)
  where
    by : (q : Option ℕ) → Stays y (yield y c q)
    by none = record { more = omega arith; number = λ s l. refl; start = λ s l. refl }
    by (some t) = record { more = omega arith; number = λ s l. refl; start = λ s l. refl }
stays_step y (Fork r name) = record {
  more = omega arith;
  number = λ s l. changed-other y.numbering.of y.revisions (next y.numbering) s (λ e. omega arith);
  start = λ s l. changed-other y.start_of y.revisions _ s (λ e. omega arith);
}
stays_step y (Join a b) = record { more = omega arith; number = λ s l. refl; start = λ s l. refl }
stays_step y (Drop r) = record { more = omega arith; number = λ s l. refl; start = λ s l. refl }

pub stays_from : (ss : List Step) (y : Day) → Stays y (run_from y ss)
unfolding run_from
stays_from [] y = record { more = omega arith; number = λ r l. refl; start = λ r l. refl }
stays_from (s ∷ ss) y =
    let a = stays_step y s in
    let b = stays_from ss (after y s) in
    record {
      more = (let k = a.more in let m = b.more in omega arith);
      number = λ r l. b.number r (let k = a.more in omega arith) ∙ a.number r l;
      start = λ r l. b.start r (let k = a.more in omega arith) ∙ a.start r l;
    }

-- a number that was borne has a searched meant
latest_some : (of : ℕ → ℕ) (n m r : ℕ) → r < m → of r ≡ n → searched of n m ≡ none → ⊥
latest_some of n zero r l e q = omega arith
latest_some of n (suc m) r l e q = cases (eqb (of m) n) (λ t. let z : some m ≡ none = rw t at q in some≢none none (sym z) refl)
    (λ t. latest_some of n m r (let d : r ≡ m → ⊥ = λ z. eqb-false (of m) n t (ap of (sym z) ∙ e) in omega arith) e (rw t at q))

at_start : (ss : List Step) → number_of (run ss) 0 ≡ 0
unfolding run
at_start ss = (stays_from ss fresh).number 0 (omega arith)

pub waits_run : (ss : List Step) → Accepted ss → (run ss).numbering.freed ≡ waiting ss
unfolding run
waits_run ss A = (waits_from ss fresh A named-fresh [] (record { started = λ r i. absurd (Memᴰ.not-nil i); are = refl })).are

module _ (ss : List Step) (A : Accepted ss) where
  abbrev y : Day
  y = run ss

  N : Named y
  N = named-run ss A

  used : (n : ℕ) → n < y.numbering.given → Used y n
  used n l = let u = N.used n l in (u.0, meant-low y n u.0 u.1, meant-number y n u.0 u.1)

  -- what a fork takes now
  pub takes : (r : ℕ) (name : Option Name) → accepted y (Fork r name) ≡ true → Takes ss (next_number y)
  unfolding next_number
  takes r name a = cases (ltb y.numbering.given revision_limit)
      (λ e. let l = ltb-true y.numbering.given revision_limit e in rw e (never_used l (λ u. let k = N.low u.0 u.1 in let z = u.2 in omega arith) used))
      (λ e. let f = first_waits y N r name (can-fork y r name a) e in let l = ltb-false y.numbering.given revision_limit e in
      rw (e, f.2) (longest_ago (λ m k. used m (omega arith)) f.1 (sym (waits_run ss A) ∙ f.2)))

  bears : (n r : ℕ) → found y n ≡ some r → Bears y r n
  unfolding found
  bears n r e = record { bore = latest_bore y.numbering.of n y.revisions r e; no_later = λ s l k q. let m = latest_last y.numbering.of n y.revisions s r e k q in omega arith }

  borne : (n r : ℕ) → Bears y r n → found y n ≡ some r
  unfolding found
  borne n r B = by (searched y.numbering.of n y.revisions) refl
    where
      by : (q : Option ℕ) → searched y.numbering.of n y.revisions ≡ q → q ≡ some r
      by none e = absurd (latest_some y.numbering.of n y.revisions r B.bore.0 B.bore.1 e)
      by (some s) e =
          let b = latest_bore y.numbering.of n y.revisions s e in
          let l = latest_last y.numbering.of n y.revisions r s e B.bore.0 B.bore.1 in
          cases (ltb r s) (λ t. absurd (B.no_later s (ltb-true r s t) b.0 b.1)) (λ t. ap some (let k = ltb-false r s t in omega arith))

  few : out_count y ≤ revision_limit
  few = let a = N.counted in let b = N.few in omega arith

-- each fork of a run
forked : (ss : List Step) → Accepted ss → (before rest : List Step) (r : ℕ) (name : Option Name)
    → ss ≡ before ++ (Fork r name ∷ rest) → Takes before (number_of (run ss) (run before).revisions)
unfolding run_from after next_number
forked ss A before rest r name q =
    let B : Accepted (before ++ (Fork r name ∷ rest)) = subst Accepted q A in
    let F = accepted_first before (Fork r name ∷ rest) B in
    let e = (accepted_rest before (Fork r name ∷ rest) B).0 in
    let n : number_of (run ss) (run before).revisions ≡ next_number (run before) =
    ap (λ z. number_of z (run before).revisions) (ap run q ∙ run-append before (Fork r name ∷ rest))
    ∙ (stays_from rest (fork_at (run before) r name)).number (run before).revisions (omega arith)
    ∙ number_new (run before) (named-run before F) r name (can-fork (run before) r name e) in
    rw n (takes before F r name e)

pub by_numbers : (ss : List Step) → Accepted ss → ByNumbers ss
by_numbers ss A = record {
  main = at_start ss;
  forked = forked ss A;
  means = λ n r. (λ m. bears ss A n r ((found-means (run ss) n r).1 m), λ B. (found-means (run ss) n r).0 (borne ss A n r B));
  out = λ r o. (found-means (run ss) _ r).0 ((N ss A).means r o);
  given = λ n. (used ss A n, λ u. let k = (N ss A).low u.0 u.1 in let z = u.2 in omega arith);
  freed = waits_run ss A;
  most = few ss A;
}
