-- `verifying::verify::fits_as_many` meets its contract: the places, then every number. Assumes nothing.
use Prim.Native.Nat.{ℕ}
use mathlib.Core.Path.{◌∙◌, ap}
use lib.ListN.{length, length-replicate}
use native.Mathlib.Omega.{arith}
use Rattle.cells.specs.Sizes.{revisions, updates}
use Rattle.cells.specs.Order.{order}
use Rattle.cells.proofs.Range.{ranges}
use Rattle.orderfile.specs.File.{numbers_of}
use Rattle.orderfile.specs.Test.{fits}
use Rattle.orderfile.specs.Checks.{place_at}
use Rattle.orderfile.proofs.Placed.{no_place}
use Rattle.orderfile.proofs.Found.{not-complete, complete-and}
use Rattle.table.specs.Halves.{low, cells_of}
use Rattle.table.specs.Calls.{is_out}
use Rattle.verifying.proofs.verify.fits_as_many.Goals as goal

pub place_all-requires : goal.place_all-requires
place_all-requires c =
    let most = (ranges (low c.args.t.now) c.requires.1).taken in
    let room = ap length c.no_places-places.ensures ∙ length-replicate {A = ℕ} updates 0 in
    (c.requires.2, omega arith, omega arith, λ u. ap (λ l. place_at l u) c.no_places-places.ensures ∙ no_place updates u)

pub returns-then-not-place_all : goal.returns-then-not-place_all
returns-then-not-place_all c =
    let s = c.args in
    let k = cells_of s.t.now in
    let ns = numbers_of s.numbers.now in
    let none = not-complete _ revisions (is_out k) (order k) ns _ _ c.place_all.ensures c.if-not-place_all.true in
    none ∙ ap (λ n. fits n revisions (is_out k) (order k) ns) c.requires.3

pub returns : goal.returns
returns c =
    let s = c.args in
    let k = cells_of s.t.now in
    let ns = numbers_of s.numbers.now in
    let both = complete-and _ revisions (is_out k) (order k) ns _ _ c.place_all.ensures c.if-not-place_all.false _ c.all_stand.ensures in
    both ∙ ap (λ n. fits n revisions (is_out k) (order k) ns) c.requires.3
