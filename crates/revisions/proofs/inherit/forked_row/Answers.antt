-- `revisions::inherit::forked_row` meets its contract: the updates so far of the own list are flagged. Assumes nothing.
use Prim.Native.Nat.{ℕ}
use mathlib.Core.Bool.{Bool}
use mathlib.Core.Path.{◌∙◌, ◌≡◌}
use native.Mathlib.Omega.{arith}
use lib.ListN.{take}
use lib.Seq.{take_all}
use borrow.Author.Rules.{rules}
use Rattle.cells.specs.Decode.{cells}
use Rattle.cells.specs.Flags.{flag_at}
use Rattle.order.proofs.Laws.{gathered}
use Rattle.revisions.proofs.Rows.{row_done, row_more, row-skip, row_start}
use Rattle.revisions.proofs.inherit.forked_row.Goals as goal
use Rattle.revisions.proofs.inherit.forked_row.Goals.{then-u-lt-UPDATES, else-u-lt-UPDATES}

pub loop-update-init : goal.loop-update-init
loop-update-init c = (search rules, row_start 512 _ (take c.own_list-n.result c.own_list-n.new.out) c.load-flags.result c.load-flags.ensures)

pub loop-update-preserved : goal.loop-update-preserved
loop-update-preserved c =
    let l = c.loop-update in
    let f : ℕ → Bool = flag_at c.load-flags.result in
    let o = take c.own_list-n.result c.own_list-n.new.out in
    let u = c.from-u in
    elim c.if-u-lt-UPDATES.branch [
      | then-u-lt-UPDATES w ↦ rw w.flags-is (search rules, row_more f o 512 l.update-index l.flags u.result w.set.result (omega arith) u.ensures w.if-u-lt-UPDATES.true l.invariant.1 w.set.ensures)
      | else-u-lt-UPDATES w ↦ rw w.flags-is (l.invariant.0, row-skip f o 512 l.update-index l.flags (omega arith) (rw u.ensures at w.if-u-lt-UPDATES.false) l.invariant.1)
    ]

pub returns : goal.returns
returns c =
    let s = c.args in
    let k = cells s.d.now in
    let l = c.loop-update in
    let o = c.own_list-n.new.out in
    let own = take c.own_list-n.result o in
    let all : take l.update-index own ≡ own = take_all l.update-index own (omega arith) in
    row_done k s.parent.0 l.update-index own c.load-flags.result l.flags (all ∙ (gathered k s.parent.0 _ o _ c.own_list-n.ensures.0 c.own_list-n.ensures.2).1)
    c.load-flags.ensures l.invariant.1
