-- Every run of accepted steps goes by the rules of 002 and 01.
use mathlib.Core.List.{List}
use Rattle.diagram.proofs.Graph.RootPaths.{composed_at}
use Rattle.diagram.proofs.Graph.Paths.{leads_iff_path}
use Rattle.diagram.proofs.Order.Constructed.{made-run}
use Rattle.diagram.proofs.Order.Runs.{fine_run}
use Rattle.diagram.specs.Rules.{ByRules}
use Rattle.diagram.specs.Steps.{Step, run}
use Rattle.diagram.specs.Accepted.{Accepted}

pub by_rules : (ss : List Step) → Accepted ss → ByRules ss
by_rules ss A =
    let made = made-run ss A in
    record {
      constructed = made.constructed;
      paths = λ x y. leads_iff_path (run ss).diagram x y (fine_run ss A).sound.real.linked.ordered;
      terminals = made.terminals;
      starts = made.starts;
      composed = composed_at made.constructed;
    }
