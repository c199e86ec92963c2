-- `RunsExactly` decides the tests: any others that it held of would accept the same steps on every day that steps reach.
use mathlib.Core.Bool.{Bool, true}
use mathlib.Core.Path.{◌≡◌}
use mathlib.Core.Logic.{◌↔◌}
use mathlib.Core.List.{List, [], ◌++◌, ◌∷◌}
use Rattle.diagram.proofs.Order.Lawful.{runs_exactly}
use Rattle.diagram.proofs.Order.Runs.{accepted-more, accepted_rest}
use Rattle.diagram.specs.Day.{Day, fresh}
use Rattle.diagram.specs.Lawful.{EachMayFollow}
use Rattle.diagram.specs.Steps.{Step, after, run, run_from}
use Rattle.diagram.specs.Accepted.{Accepted, accepted}
use Rattle.lists.proofs.Cases.{same_truth}

module _ (test : Day → Step → Bool) where
  abbrev Passed : Day → List Step → Type 0
  Passed y [] = Unit {0}
  Passed y (s ∷ ss) = (test y s ≡ true) × Passed (after y s) ss

  passed-more : (ss : List Step) (y : Day) (s : Step) → Passed y ss → test (run_from y ss) s ≡ true → Passed y (ss ++ (s ∷ []))
  unfolding run_from
  passed-more [] y s P e = (e, tt)
  passed-more (r ∷ ss) y s P e = (P.0, passed-more ss (after y r) s P.1 e)

  passed-last : (ss : List Step) (y : Day) (s : Step) → Passed y (ss ++ (s ∷ [])) → test (run_from y ss) s ≡ true
  unfolding run_from
  passed-last [] y s P = P.0
  passed-last (r ∷ ss) y s P = passed-last ss (after y r) s P.1

  pub tests-decided : ((ss : List Step) → Passed fresh ss ↔ EachMayFollow ss) → (ss : List Step) → Accepted ss → (s : Step) → test (run ss) s ≡ accepted (run ss) s
  unfolding run
  tests-decided D ss A s =
      same_truth (test (run ss) s) (accepted (run ss) s)
      (λ e. (accepted_rest ss (s ∷ []) ((runs_exactly (ss ++ (s ∷ []))).1 ((D (ss ++ (s ∷ []))).0 (passed-more ss fresh s ((D ss).1 ((runs_exactly ss).0 A)) e)))).0)
      (λ e. passed-last ss fresh s ((D (ss ++ (s ∷ []))).1 ((runs_exactly (ss ++ (s ∷ []))).0 (accepted-more ss s A e))))
