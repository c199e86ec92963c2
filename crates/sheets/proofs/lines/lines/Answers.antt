-- `sheets::lines::lines` meets its contract: one line more at each turn. Assumes nothing.
use mathlib.Core.Path.{◌∙◌, ap, refl}
use native.Mathlib.Omega.{arith}
use lib.Seq.{take_all}
use borrow.Author.Rules.{rules}
use Rattle.entries.specs.Entries.{entry_at}
use Rattle.sheets.specs.Sheet.{sheet}
use Rattle.sheets.proofs.Written.{no_lines, one_more}
use Rattle.sheets.proofs.lines.lines.Goals as goal

pub loop-i-init : goal.loop-i-init
loop-i-init c = let s = c.args in (no_lines (entry_at s.t.now) s.order.now s.s.now, refl)

pub put-requires : goal.put-requires
put-requires c = let l = c.loop-i in (search rules, omega arith)

pub loop-i-preserved : goal.loop-i-preserved
loop-i-preserved c =
    let l = c.loop-i in
    let s = c.args in
    (c.put.ensures ∙ one_more (entry_at s.t.now) s.order.now l.s s.s.now l.i (omega arith) l.invariant.0, search rules)

pub returns : goal.returns
returns c =
    let l = c.loop-i in
    let s = c.args in
    l.invariant.0 ∙ ap (λ ns. sheet (entry_at s.t.now) ns s.s.now) (take_all l.i s.order.now (omega arith))
