-- `flags::packed::clear` meets its contract: `16 * k` rows are done, and the others as they were. Assumes nothing.
use Prim.Native.Nat.{◌+◌, ◌*◌}
use mathlib.Core.Path.{◌≡◌}
use native.Mathlib.Omega.{arith}
use borrow.Author.Rules.{rules}
use Rattle.flags.proofs.InPlace.{all_done, cleared_more, none_done}
use Rattle.flags.proofs.packed.clear.Goals as goal

pub loop-k-init : goal.loop-k-init
loop-k-init c = (search rules, search rules, none_done _ _)

pub loop-k-preserved : goal.loop-k-preserved
loop-k-preserved c =
    let l = c.loop-k in
    let s = c.args in
    let e : 16 * l.k + 16 ≡ 16 * (l.k + 1) = omega arith in
    let more = cleared_more s.t.now s.w l.t _ (16 * l.k) (omega arith) l.invariant.2 c.clear_block.ensures in
    (omega arith, search rules, rw e at more)

pub returns : goal.returns
returns c =
    let l = c.loop-k in
    let s = c.args in
    let e : l.k ≡ 4 = omega arith in
    all_done _ s.t.now l.t 64 (search rules) (rw e at l.invariant.2)
