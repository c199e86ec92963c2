-- `flags::change::join_caught` meets its contract: the rows up to `x` are stored. Assumes nothing.
use mathlib.Core.Path.{◌∙◌, ◌≡◌}
use mathlib.Core.List.{[]}
use native.Mathlib.Omega.{arith}
use lib.ListN.{get_or}
use borrow.Author.Rules.{rules}
use Rattle.cells.specs.Flags.{rows}
use Rattle.cells.proofs.Tables.{tab_done, tab-more, tab-none, tab_same}
use Rattle.flags.proofs.Laws.{joined_row}
use Rattle.flags.proofs.change.join_caught.Goals as goal

pub loop-x-init : goal.loop-x-init
loop-x-init c = (search rules, search rules, tab-none _)

pub loop-x-preserved : goal.loop-x-preserved
loop-x-preserved c =
    let l = c.loop-x in
    (omega arith, search rules, tab-more _ l.z l.x _ (omega arith) l.invariant.2 (rw c.flag.ensures at c.gain.ensures))

pub returns : goal.returns
unfolding rows
returns c =
    let l = c.loop-x in
    let e : l.x ≡ 16 = omega arith in
    let only = c.only-column in
    let s = c.args in
    tab_done _ l.z 16 l.invariant.1 (rw e at l.invariant.2) ∙ tab_same _ _ 16 (λ i h. joined_row (get_or s.caught i []) only.result s.a.0 s.b.0 only.ensures)
