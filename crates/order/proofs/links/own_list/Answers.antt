-- `order::links::own_list` meets its contract: what is gathered is the own list. Assumes nothing.
use mathlib.Core.Path.{◌∙◌, ap}
use mathlib.Core.List.{◌++◌}
use native.Mathlib.Omega.{arith}
use lib.ListN.{drop}
use borrow.Author.Rules.{rules}
use Rattle.cells.specs.Cells.{chain}
use Rattle.cells.specs.Decode.{cells}
use Rattle.cells.proofs.Range.{ranges}
use Rattle.order.proofs.links.own_list.Goals as goal

pub gather-requires : goal.gather-requires
gather-requires c =
    let s = c.args in
    let r = ranges s.d.now c.requires.1 in
    (search rules, rw c.last-at.ensures.0 (r.last s.r.0 (omega arith)), (let n = r.count s.r.0 (omega arith) in let e = c.count-n.ensures.0 in omega arith))

pub returns : goal.returns
returns c =
    let s = c.args in
    let k = cells s.d.now in
    let r = ranges s.d.now c.requires.1 in
    let n = c.count-n.result in
    let count-is = c.count-n.ensures.0 in
    let behind = drop n s.out.now in
    let gathered = c.gather.ensures ∙ ap (λ at. chain k.link at n ++ behind) c.last-at.ensures.0 ∙ ap (λ m. chain k.link (k.last s.r.0) m ++ behind) count-is in
    (count-is, rw count-is (r.count s.r.0 (omega arith)), gathered)
