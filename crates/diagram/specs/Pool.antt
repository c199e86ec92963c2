-- 002, section 4.3: the servers' sets J along a run. 00: "for joins its server pool's rule".
use Rattle.std.specs.Prelude.{ℕ, true, false, ◌≡◌, ◌↔◌, List, [], ◌∷◌}
use Rattle.lists.specs.Pool.{Pool, fork_pool, join_pool}
use Rattle.diagram.specs.Day.{Day, IsOut, fresh}
use Rattle.diagram.specs.Construction.{Joinable}
use Rattle.diagram.specs.Steps.{Step, Event, Yield, Fork, Join, Drop, after, run}

-- the new server of a fork is the next in number
abbrev pub pool_after : Day → Pool → Step → Pool
pool_after y J (Event c r u) = J
pool_after y J (Yield c) = J
pool_after y J (Fork r name) = fork_pool J r y.revisions
pool_after y J (Join a b) = join_pool J a b
pool_after y J (Drop r) = J

unfoldable pub pool_from : Day → Pool → List Step → Pool
pool_from y J [] = J
pool_from y J (s ∷ ss) = pool_from (after y s) (pool_after y J s) ss

-- no server may join another at the start
unfoldable pub pool : List Step → Pool
pool ss = pool_from fresh (λ a b. false) ss

-- 01's join rule is the pool's: "s2 ∈ J1"
abbrev pub ByPool : List Step → Type 0
ByPool ss = (a b : ℕ) → IsOut (run ss) a → IsOut (run ss) b → Joinable (run ss).diagram ((run ss).terminal a) ((run ss).terminal b) ↔ (pool ss a b ≡ true)
