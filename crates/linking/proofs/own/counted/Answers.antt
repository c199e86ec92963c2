-- `linking::own::counted` meets its contract: on both sides of the limit. Assumes nothing.
use native.Mathlib.Omega.{arith}
use lib.Dec.{ltb}
use borrow.Author.Tests.{ltb-true, ltb-false}
use Rattle.lists.proofs.Cases.{cases}
use Rattle.cells.specs.CellSteps.{counted}
use Rattle.linking.proofs.own.counted.Goals as goal

pub returns : goal.returns
unfolding counted
returns c =
    let n = c.args.n in
    (cases (ltb n 4096) (λ e. let l = ltb-true _ _ e in rw e (omega arith)) (λ e. let l = ltb-false _ _ e in rw e (omega arith)), omega arith)
