-- `flags::rows::store16` meets its contract: the rows up to `x` are stored. Assumes nothing.
use Prim.Native.Nat.{◌*◌, ◌+◌}
use mathlib.Core.Path.{◌∙◌, ◌≡◌, ap, sym}
use native.Mathlib.Omega.{arith}
use lib.ListN.{take}
use lib.Seq.{take_all}
use borrow.Author.Rules.{rules}
use Rattle.cells.specs.Flags.{flag_of}
use Rattle.flags.proofs.Laws.{pack-none, pack_put}
use Rattle.flags.proofs.rows.store16.Goals as goal

pub loop-x-init : goal.loop-x-init
loop-x-init c = (search rules, search rules, pack-none _)

pub loop-x-preserved : goal.loop-x-preserved
loop-x-preserved c =
    let l = c.loop-x in
    let s = c.args in
    (omega arith, search rules, ap (take (8 * (l.x + 1))) c.store_row.ensures ∙ pack_put (flag_of s.s) l.t l.x (omega arith) l.invariant.2)

pub returns : goal.returns
returns c =
    let l = c.loop-x in
    let e : l.x ≡ 16 = omega arith in
    sym (take_all 128 l.t (omega arith)) ∙ rw e at l.invariant.2
