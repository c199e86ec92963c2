-- `flags::rows::load16` meets its contract: the rows up to `x` are stored. Assumes nothing.
use mathlib.Core.Path.{◌∙◌, ◌≡◌}
use native.Mathlib.Omega.{arith}
use borrow.Author.Rules.{rules}
use Rattle.cells.specs.Flags.{rows}
use Rattle.cells.proofs.Tables.{tab_done, tab-more, tab-none}
use Rattle.flags.proofs.Laws.{row_loaded}
use Rattle.flags.proofs.rows.load16.Goals as goal

pub loop-x-init : goal.loop-x-init
loop-x-init c = (search rules, search rules, tab-none _)

pub loop-x-preserved : goal.loop-x-preserved
loop-x-preserved c =
    let t = c.args.t.now in
    let l = c.loop-x in
    (omega arith, search rules, tab-more _ l.s l.x _ (omega arith) l.invariant.2 (c.load_row.ensures ∙ row_loaded 16 t l.x (omega arith)))

pub returns : goal.returns
unfolding rows
returns c =
    let l = c.loop-x in
    let e : l.x ≡ 16 = omega arith in
    tab_done _ l.s 16 l.invariant.1 (rw e at l.invariant.2)
