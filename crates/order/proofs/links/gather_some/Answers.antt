-- `order::links::gather_some` meets its contract: after each run what is left to do makes the whole with what is done. Assumes
-- nothing.
use mathlib.Core.Path.{◌≡◌, ◌∙◌, refl}
use native.Mathlib.Omega.{arith}
use borrow.Author.Rules.{rules}
use Rattle.order.proofs.links.gather_some.Goals as goal

pub loop-i-init : goal.loop-i-init
loop-i-init c = (search rules, omega arith, search rules, refl, refl)

pub run-w-requires : goal.run-w-requires
run-w-requires c =
    let h = c.requires in
    let e = c.loop-i.invariant.3 in
    (h.0, c.loop-i.invariant.2, omega arith, omega arith)

pub loop-i-smaller : goal.loop-i-smaller
loop-i-smaller c = let r = c.run-w.ensures in omega arith

pub loop-i-preserved : goal.loop-i-preserved
loop-i-preserved c =
    let l = c.loop-i in
    let r = c.run-w.ensures in
    (r.1, omega arith, r.0, c.run-w.auto.out ∙ l.invariant.3, r.3 ∙ l.invariant.4)

pub shape_of-out : goal.shape_of-out
shape_of-out c = c.loop-i.invariant.3

pub returns : goal.returns
returns c =
    let l = c.loop-i in
    let e : l.i ≡ c.args.m = omega arith in
    (l.invariant.2, rw e at l.invariant.4)
