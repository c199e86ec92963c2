-- `checks::busy::is_busy_by_other` meets its contract: no other client below `x` has r open. Assumes nothing.
use mathlib.Core.Path.{◌∙◌, ◌≡◌, ap, sym}
use native.Mathlib.Omega.{arith}
use Rattle.lists.specs.Sums.{any_below}
use Rattle.lists.proofs.Sums.{any_at}
use Rattle.checks.proofs.busy.is_busy_by_other.Invariants.{other}
use Rattle.checks.proofs.busy.is_busy_by_other.Goals as goal

pub returns-then-is_other_on : goal.returns-then-is_other_on
returns-then-is_other_on c =
    let s = c.args in
    let l = c.loop-x in
    sym (any_at 16 (other s.d.now s.c.0 s.r.0) l.x (omega arith) (sym c.is_other_on.ensures ∙ c.if-is_other_on.true))

pub returns : goal.returns
returns c =
    let s = c.args in
    let l = c.loop-x in
    let e : 16 ≡ l.x = omega arith in
    sym (ap (λ n. any_below n (other s.d.now s.c.0 s.r.0)) e ∙ l.invariant.1)
