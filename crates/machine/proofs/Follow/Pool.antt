-- The flags of the machine are the sets J of the server pool, and so the pool's rule is 01's join rule.
use Prim.Native.Nat.{ℕ, suc}
use mathlib.Core.Bool.{false, not}
use mathlib.Core.Path.{◌≡◌, refl, sym, ◌∙◌, ap}
use mathlib.Core.Option.{Option, none, some}
use mathlib.Core.List.{List, [], ◌∷◌}
use borrow.Author.Tests.{not-true}
use Rattle.diagram.specs.Day.{Day, fresh}
use Rattle.diagram.specs.Checks.{not_joinable}
use Rattle.lists.specs.Pool.{Pool, fork_pool, join_pool}
use Rattle.diagram.specs.Pool.{ByPool, pool, pool_after, pool_from}
use Rattle.diagram.proofs.Order.Constructed.{joinable_iff}
use Rattle.diagram.specs.Steps.{Drop, Event, Fork, Join, Step, Yield, after, run, yield}
use Rattle.diagram.specs.Accepted.{Accepted}
use Rattle.machine.specs.Machine.{Machine, fresh_machine, machine_after, machine_from}
use Rattle.machine.proofs.Follow.Shown.{follows_run}

pub yield-revisions : (y : Day) (c : ℕ) (o : Option ℕ) → y.revisions ≡ (yield y c o).revisions
yield-revisions y c none = refl
yield-revisions y c (some t) = refl

module _ (y : Day) (k : Machine) (e : k.revisions ≡ y.revisions) where
  revisions-after : (s : Step) → (machine_after k s).revisions ≡ (after y s).revisions
  unfolding machine_after after
  revisions-after (Event c r u) = e
  revisions-after (Yield c) = e ∙ yield-revisions y c (y.open_by c)
  revisions-after (Fork r name) = ap suc e
  revisions-after (Join a b) = e
  revisions-after (Drop r) = e

  flags-after : (J : Pool) → k.joinable ≡ J → (s : Step) → (machine_after k s).joinable ≡ pool_after y J s
  unfolding machine_after
  flags-after J j (Event c r u) = j
  flags-after J j (Yield c) = j
  flags-after J j (Fork r name) = ap (λ (n : ℕ). fork_pool k.joinable r n) e ∙ ap (λ (M : Pool). fork_pool M r y.revisions) j
  flags-after J j (Join a b) = ap (λ (M : Pool). join_pool M a b) j
  flags-after J j (Drop r) = j

flags_from : (ss : List Step) (y : Day) (k : Machine) (J : Pool) → k.revisions ≡ y.revisions → k.joinable ≡ J → (machine_from k ss).joinable ≡ pool_from y J ss
unfolding machine_from pool_from
flags_from [] y k J e j = j
flags_from (s ∷ ss) y k J e j = flags_from ss (after y s) (machine_after k s) (pool_after y J s) (revisions-after y k e s) (flags-after y k e J j s)

pub by_pool : (ss : List Step) → Accepted ss → ByPool ss
unfolding pool
by_pool ss A a b oa ob =
    let same : pool ss a b ≡ not (not_joinable (run ss) a b) = sym (ap (λ (M : Pool). M a b) (flags_from ss fresh fresh_machine (λ a b. false) refl refl)) ∙ (follows_run ss A).same_joinable a b oa ob in
    let rule = joinable_iff ss A a b oa ob in
    (λ J. same ∙ ap not (rule.1 J), λ e. rule.0 (not-true (not_joinable (run ss) a b) (sym same ∙ e)))
