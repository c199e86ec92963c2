-- `posting::brought::post_all` meets its contract: one entry more at each turn. Assumes nothing.
use mathlib.Core.Path.{◌∙◌, ap}
use native.Mathlib.Omega.{arith}
use lib.Seq.{take_all}
use borrow.Author.Rules.{rules}
use Rattle.posting.specs.Brought.{entries_posted, entry_posted}
use Rattle.posting.proofs.Posted.{none-posted, one_more}
use Rattle.posting.proofs.brought.post_all.Goals as goal

pub loop-n-init : goal.loop-n-init
loop-n-init c =
    let s = c.args in
    (none-posted s.t.now s.order.now s.board.now, c.requires.1)

pub loop-n-preserved : goal.loop-n-preserved
loop-n-preserved c =
    let l = c.loop-n in
    let s = c.args in
    let t = c.args.t.now in
    (c.post_entry.ensures ∙ ap (entry_posted t _) l.invariant.0 ∙ one_more t s.order.now s.board.now l.n-index (omega arith), search rules)

pub returns : goal.returns
returns c =
    let l = c.loop-n in
    let s = c.args in
    l.invariant.0 ∙ ap (λ ns. entries_posted s.t.now ns s.board.now) (take_all l.n-index s.order.now (omega arith))
