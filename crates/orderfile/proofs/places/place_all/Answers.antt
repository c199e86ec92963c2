-- `orderfile::places::place_all` meets its contract: the numbers before place i have their places, and no other has one. Assumes nothing.
use native.Mathlib.Omega.{arith}
use Rattle.orderfile.specs.File.{numbers_of}
use Rattle.orderfile.proofs.Numbers.{numbers-length}
use Rattle.orderfile.proofs.Placed.{placed-none, placed-more, placed-all, too-high, twice, ends}
use Rattle.orderfile.proofs.places.place_all.Goals as goal

pub loop-i-init : goal.loop-i-init
loop-i-init c =
    let s = c.args in
    placed-none s.taken (numbers_of s.b.now) s.places.now c.requires.3

pub number_at-n-requires : goal.number_at-n-requires
number_at-n-requires c = omega (arith, numbers-length c.args.b.now)

pub returns-then-taken-n : goal.returns-then-taken-n
returns-then-taken-n c =
    let s = c.args in
    let l = c.loop-i in
    ends (too-high s.taken (numbers_of s.b.now) l.i l.places l.invariant (omega arith) _ c.number_at-n.ensures c.if-taken-n.true)

pub returns-then-places-n-ne0 : goal.returns-then-places-n-ne0
returns-then-places-n-ne0 c =
    let s = c.args in
    let l = c.loop-i in
    ends (twice s.taken (numbers_of s.b.now) l.i l.places l.invariant (omega arith) _ c.number_at-n.ensures c.if-places-n-ne0.true)

pub loop-i-preserved : goal.loop-i-preserved
loop-i-preserved c =
    let s = c.args in
    let l = c.loop-i in
    let n = c.number_at-n in
    placed-more s.taken (numbers_of s.b.now) l.i l.places l.invariant (omega arith) _ n.ensures (omega arith) (omega arith) c.if-places-n-ne0.false

pub returns : goal.returns
returns c =
    let l = c.loop-i in
    let s = c.args in
    placed-all s.taken (numbers_of s.b.now) l.i l.places l.invariant c.requires.0 (omega arith)
