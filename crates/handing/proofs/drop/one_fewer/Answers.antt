-- `handing::drop::one_fewer` meets its contract: on both sides of the limit. Assumes nothing.
use native.Mathlib.Omega.{arith}
use lib.Dec.{ltb}
use borrow.Author.Tests.{ltb-true, ltb-false}
use Rattle.lists.proofs.Cases.{cases}
use Rattle.cells.specs.CellSteps.{one_fewer}
use Rattle.handing.proofs.drop.one_fewer.Goals as goal

pub returns : goal.returns
unfolding one_fewer
returns c =
    let n = c.args.n in
    (cases (ltb 1 n) (λ e. let l = ltb-true _ _ e in rw e (omega arith)) (λ e. let l = ltb-false _ _ e in rw e (omega arith)), omega arith)
