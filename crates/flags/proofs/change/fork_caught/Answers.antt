-- `flags::change::fork_caught` meets its contract: the rows up to `x` are stored. Assumes nothing.
use mathlib.Core.Path.{◌∙◌, ◌≡◌}
use native.Mathlib.Omega.{arith}
use borrow.Author.Rules.{rules}
use Rattle.cells.specs.Flags.{flag_of, rows}
use Rattle.cells.proofs.Tables.{tab_done, tab-more, tab-none}
use Rattle.flags.proofs.Laws.{column_rows}
use Rattle.flags.proofs.change.fork_caught.Goals as goal

pub loop-x-init : goal.loop-x-init
loop-x-init c = (search rules, search rules, tab-none _)

pub loop-x-preserved : goal.loop-x-preserved
loop-x-preserved c =
    let l = c.loop-x in
    (omega arith, search rules, tab-more _ l.z l.x _ (omega arith) l.invariant.2 (rw c.flag.ensures at c.with.ensures))

pub returns : goal.returns
unfolding rows
returns c =
    let l = c.loop-x in
    let e : l.x ≡ 16 = omega arith in
    let only = c.only-column in
    let s = c.args in
    tab_done _ l.z 16 l.invariant.1 (rw e at l.invariant.2) ∙ column_rows 16 s.caught only.result s.child.0 (λ i. flag_of s.caught i s.parent.0) only.ensures
