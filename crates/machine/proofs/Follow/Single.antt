-- On single-main days (02, U8) the main revision may join every other that is out: code 11 arises only with joinee 0.
use Prim.Native.Nat.{◌<◌, ℕ}
use mathlib.Core.Bool.{false, true}
use mathlib.Core.Path.{◌≡◌}
use mathlib.Core.List.{List, [], ◌∷◌}
use native.Mathlib.Omega.{arith}
use lib.Dec.{eqb}
use borrow.Author.Tests.{eqb-false, ne_eqb}
use Rattle.lists.specs.Pool.{Pool}
use Rattle.lists.proofs.Cases.{cases, or_left}
use Rattle.diagram.specs.Day.{Day, IsOut, fresh}
use Rattle.diagram.specs.Checks.{not_joinable}
use Rattle.diagram.specs.Pool.{pool, pool_from}
use Rattle.diagram.specs.Steps.{Drop, Event, Fork, Join, Step, Yield, after, run, run_from}
use Rattle.diagram.specs.Accepted.{Accepted}
use Rattle.diagram.proofs.Order.Constructed.{joinable_iff}
use Rattle.diagram.proofs.Order.Single.{SingleMain, main-run}
use Rattle.machine.proofs.Follow.Pool.{by_pool, yield-revisions}

-- the main revision may join every other
May : Day → Pool → Type 0
May y J = (b : ℕ) → 0 < b → b < y.revisions → J 0 b ≡ true

may_from : (ss : List Step) (y : Day) (J : Pool) → SingleMain ss → May y J → May (run_from y ss) (pool_from y J ss)
unfolding run_from pool_from after May
may_from [] y J S M = M
may_from (Event c r u ∷ ss) y J S M = may_from ss (after y (Event c r u)) J S.1 M
may_from (Yield c ∷ ss) y J S M = may_from ss (after y (Yield c)) J S.1 (λ b l h. M b l (rw (← (yield-revisions y c (y.open_by c))) at h))
may_from (Fork r name ∷ ss) y J S M =
    may_from ss (after y (Fork r name)) _ S.1 (λ b l h.
    cases (eqb b y.revisions)
    (λ e. rw (e, S.0.0))
    (λ e. let d = eqb-false b y.revisions e in rw (e, ne_eqb 0 y.revisions (λ q. omega arith)) (M b l (omega arith))))
may_from (Join a b ∷ ss) y J S M = may_from ss (after y (Join a b)) _ S.1 (λ c l h. rw S.0 (or_left (J 0 c) (J b c) (M c l h)))
may_from (Drop r ∷ ss) y J S M = may_from ss (after y (Drop r)) J S.1 M

pub main-joins : (ss : List Step) → Accepted ss → SingleMain ss → (b : ℕ) → IsOut (run ss) b → (b ≡ 0 → ⊥) → not_joinable (run ss) 0 b ≡ false
unfolding run pool May
main-joins ss A S b o n =
    let p = may_from ss fresh (λ a b. false) S (λ b l h. absurd (omega arith)) b (omega arith) o.0 in
    (joinable_iff ss A 0 b (main-run ss A) o).1 ((by_pool ss A 0 b (main-run ss A) o).1 p)
