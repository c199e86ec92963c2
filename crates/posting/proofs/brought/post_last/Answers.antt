-- `posting::brought::post_last` meets its contract: what is gathered is the end of the own list. Assumes nothing.
use mathlib.Core.Path.{◌∙◌, ap}
use native.Mathlib.Omega.{arith}
use lib.ListN.{drop, take}
use lib.Seq.{take_at}
use borrow.Author.Rules.{rules}
use Rattle.cells.specs.Sizes.{main}
use Rattle.cells.specs.Cells.{chain}
use Rattle.cells.specs.Decode.{cells}
use Rattle.cells.proofs.Chain.{chain_length}
use Rattle.cells.proofs.Range.{ranges}
use Rattle.posting.specs.Brought.{entries_posted}
use Rattle.posting.proofs.brought.post_last.Goals as goal

pub gather-requires : goal.gather-requires
gather-requires c =
    let r = ranges c.args.d.now c.requires.1 in
    (search rules, rw (c.last-at.ensures.0, c.main.ensures) (r.last main (omega arith)), search rules)

pub returns : goal.returns
returns c =
    let s = c.args in
    let k = cells s.d.now in
    let at = c.last-at.result in
    let n = c.args.n in
    let list = chain k.link at n in
    c.post_all.ensures
    ∙ ap (λ l. entries_posted s.t.now (take n l) s.board.now) c.gather.ensures
    ∙ ap (λ l. entries_posted s.t.now l s.board.now) (take_at list (drop n s.room.now) n (chain_length k.link at n))
    ∙ ap (λ l. entries_posted s.t.now (chain k.link l n) s.board.now) (c.last-at.ensures.0 ∙ ap k.last c.main.ensures)
