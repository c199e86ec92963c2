-- `order::links::run` meets its contract: at each turn what is left to do makes the whole with what is done. Assumes nothing.
use Prim.Native.Nat.{◌-◌}
use mathlib.Core.Path.{◌≡◌, ◌∙◌, refl}
use native.Mathlib.Omega.{arith}
use lib.ListN.{length-set}
use borrow.Author.Rules.{rules}
use Rattle.cells.specs.Decode.{cells}
use Rattle.order.proofs.Laws.{gather_more}
use Rattle.order.proofs.links.run.Goals as goal

pub loop-i-init : goal.loop-i-init
loop-i-init c = (omega arith, omega arith, search rules, refl, refl)

pub link-v-requires : goal.link-v-requires
link-v-requires c = (c.requires.0, c.loop-i.invariant.2)

pub bounds-out-i : goal.bounds-out-i
bounds-out-i c =
    let l = c.loop-i in
    let h = c.requires in
    let e = c.loop-i.invariant.3 in
    omega arith

pub shape_of-out-then-v-u : goal.shape_of-out-then-v-u
shape_of-out-then-v-u c = simp length-set c.loop-i.invariant.3

pub returns-then-v-u : goal.returns-then-v-u
returns-then-v-u c =
    let l = c.loop-i in
    let h = c.requires in
    let e = c.loop-i.invariant.3 in
    let b = c.link-v.ensures in
    (b.1, omega arith, omega arith, rw b.0 (gather_more _ l.u l.i l.out (λ z. omega arith) (omega arith) ∙ l.invariant.4))

pub overflow_sub-u : goal.overflow_sub-u
overflow_sub-u c = let e = c.if-v-u.false in omega arith

pub loop-i-preserved : goal.loop-i-preserved
loop-i-preserved c =
    let l = c.loop-i in
    let h = c.requires in
    let e = c.loop-i.invariant.3 in
    let t = c.if-v-u.false in
    let b : l.u - 1 ≡ (cells c.args.d.now).link l.u = omega (arith, c.link-v.ensures.0) in
    (omega arith, omega arith, omega arith, simp length-set e, rw b (gather_more _ l.u l.i l.out (λ z. omega arith) (omega arith) ∙ l.invariant.4))

pub shape_of-out : goal.shape_of-out
shape_of-out c = c.loop-i.invariant.3

pub returns : goal.returns
returns c =
    let l = c.loop-i in
    let h = c.requires in
    let e : l.i ≡ c.args.m = omega arith in
    (l.invariant.2, omega arith, omega arith, rw e at l.invariant.4)
