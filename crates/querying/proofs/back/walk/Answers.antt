-- `querying::back::walk` meets its contract: the walk is done in the own list of r, or goes on behind it. Assumes nothing.
use Prim.Native.Nat.{◌+◌}
use mathlib.Core.Path.{refl}
use mathlib.Core.List.{[]}
use native.Mathlib.Omega.{arith}
use lib.ListN.{drop, drop_of_length-le}
use Rattle.lists.specs.Arranged.{flat_back}
use Rattle.cells.specs.Sizes.{updates}
use Rattle.cells.specs.Cells.{outs, own}
use Rattle.cells.specs.Decode.{cells}
use Rattle.cells.specs.Order.{inherited}
use Rattle.entries.specs.Entries.{entry_at}
use Rattle.entries.proofs.Walked.{walked_both, walked-done}
use Rattle.querying.proofs.Walks.{own_walked}
use Rattle.querying.proofs.back.walk.Goals as goal

pub returns-in-Break : goal.returns-in-Break
returns-in-Break c =
    let s = c.args in
    let k = cells s.d.now in
    let e = entry_at s.h.now in
    let own-list = own_walked k e s.bib s.r.0 _ _ s.out.now updates _ _ c.count-base.ensures.0 (rw c.in-Break.is at c.walk_list.ensures) in
    let behind-it = flat_back (inherited k s.r.0) (drop (s.j + 1) (outs k)) in
    let none = drop_of_length-le s.out.now {i = updates} (omega arith) in
    (own-list.low, walked-done e s.bib behind-it (own k s.r.0) s.out.now _ [] _ 0 updates _ c.walk_list.result none own-list refl)

pub walk_behind-requires : goal.walk_behind-requires
walk_behind-requires c =
    let w = rw c.in-Continue.is at c.walk_list.ensures in
    (c.requires.0, c.requires.1, c.requires.2, c.requires.3, c.requires.4, omega (arith, w.few), omega (arith, w.low))

pub returns-in-Break-walk_behind : goal.returns-in-Break-walk_behind
returns-in-Break-walk_behind c =
    let s = c.args in
    let k = cells s.d.now in
    let e = entry_at s.h.now in
    let own-list = own_walked k e s.bib s.r.0 _ _ s.out.now updates _ _ c.count-base.ensures.0 (rw c.in-Continue.is at c.walk_list.ensures) in
    let behind-it = flat_back (inherited k s.r.0) (drop (s.j + 1) (outs k)) in
    let none = drop_of_length-le s.out.now {i = updates} (omega arith) in
    let rest = rw c.in-Break-walk_behind.is at c.walk_behind.ensures in
    (omega (arith, own-list.low, rest.low), walked_both e s.bib behind-it (own k s.r.0) s.out.now _ _ _ _ updates _ _ none own-list rest)

pub returns-in-Continue-walk_behind : goal.returns-in-Continue-walk_behind
returns-in-Continue-walk_behind c =
    let s = c.args in
    let k = cells s.d.now in
    let e = entry_at s.h.now in
    let own-list = own_walked k e s.bib s.r.0 _ _ s.out.now updates _ _ c.count-base.ensures.0 (rw c.in-Continue.is at c.walk_list.ensures) in
    let behind-it = flat_back (inherited k s.r.0) (drop (s.j + 1) (outs k)) in
    let none = drop_of_length-le s.out.now {i = updates} (omega arith) in
    let rest = rw c.in-Continue-walk_behind.is at c.walk_behind.ensures in
    (omega (arith, own-list.low, rest.low), walked_both e s.bib behind-it (own k s.r.0) s.out.now _ _ _ _ updates _ _ none own-list rest)
