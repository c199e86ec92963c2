-- `checks::bearer::check_bearer` meets its contract: no mark from `n` on bears the name. Assumes nothing.
use Prim.Native.Nat.{◌-◌}
use mathlib.Core.Path.{◌∙◌, ◌≡◌, ap, sym}
use native.Mathlib.Omega.{arith}
use Rattle.cells.specs.Sizes.{revisions}
use Rattle.cells.specs.Decode.{cells}
use Rattle.cells.specs.Checks.{bearer_below}
use Rattle.cells.proofs.Bearer.{bearer-below, bearer-here}
use Rattle.checks.proofs.Numbers.{bearer-found, bearer-missing}
use Rattle.checks.proofs.bearer.check_bearer.Goals as goal

pub returns-then-bears : goal.returns-then-bears
returns-then-bears c =
    let s = c.args in
    let l = c.loop-n in
    bearer-found _ _ _ (sym (l.invariant.2 ∙ bearer-here (cells s.d.now) s.name.now (l.n - 1) (omega arith) (sym c.bears.ensures ∙ c.if-bears.true))) (omega arith)

pub loop-n-preserved : goal.loop-n-preserved
loop-n-preserved c =
    let s = c.args in
    let l = c.loop-n in
    (omega arith, omega arith, l.invariant.2 ∙ bearer-below (cells s.d.now) s.name.now (l.n - 1) (omega arith) (sym c.bears.ensures ∙ c.if-bears.false))

pub returns : goal.returns
unfolding bearer_below
returns c =
    let s = c.args in
    let l = c.loop-n in
    let e : l.n - 1 ≡ 0 = omega arith in
    bearer-missing _ _ revisions (sym (l.invariant.2 ∙ ap (bearer_below (cells s.d.now) s.name.now) e)) (omega arith)
