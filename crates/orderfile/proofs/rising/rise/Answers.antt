-- `orderfile::rising::rise` meets its contract: what is left of the list rises above the last place. Assumes nothing.
use Prim.Native.Nat.{◌+◌}
use mathlib.Core.Path.{sym, ◌∙◌, ap}
use native.Mathlib.Omega.{arith}
use lib.ListN.{drop}
use Rattle.orderfile.specs.Test.{rises}
use Rattle.orderfile.specs.Checks.{place_at}
use Rattle.orderfile.proofs.Rises.{rise-on, rise-stop, rise-end}
use Rattle.orderfile.proofs.rising.rise.Goals as goal

pub returns-then-p-last : goal.returns-then-p-last
returns-then-p-last c =
    let s = c.args in
    let l = c.loop-u in
    let at = c.place-p.ensures ∙ ap (place_at s.places.now) c.from.ensures in
    let stop = rise-stop (place_at s.places.now) l.last s.list.now l.u-index (omega arith) (omega (arith, at)) in
    sym (l.invariant ∙ stop)

pub loop-u-preserved : goal.loop-u-preserved
loop-u-preserved c =
    let s = c.args in
    let l = c.loop-u in
    let p = place_at s.places.now in
    let at = c.place-p.ensures ∙ ap p c.from.ensures in
    let on = rise-on p l.last s.list.now l.u-index (omega arith) (omega (arith, at)) in
    l.invariant ∙ on ∙ ap (λ k. rises p k (drop (l.u-index + 1) s.list.now)) (sym at)

pub returns : goal.returns
returns c =
    let l = c.loop-u in
    let s = c.args in
    sym (l.invariant ∙ rise-end (place_at s.places.now) l.last s.list.now l.u-index (omega arith))
