-- `forking::fresh::start` meets its contract: each half is lent and comes back written. Assumes nothing.
use mathlib.Core.Path.{◌∙◌, ap}
use mathlib.Core.List.{◌++◌}
use native.Mathlib.Omega.{arith}
use lib.ListN.{replicate}
use Rattle.forking.proofs.Cleared.{both_lent}
use Rattle.forking.proofs.fresh.start.Goals as goal

pub returns : goal.returns
returns c =
    let f = c.fresh in
    let g = c.clear in
    both_lent 40960 24576 c.args.t.now f.new.d g.new.t (omega arith) f.auto.d g.ensures ∙ ap (λ x. x ++ replicate 24576 0) f.ensures
