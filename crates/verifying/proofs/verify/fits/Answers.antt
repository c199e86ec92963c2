-- `verifying::verify::fits` meets its contract: with another count it fits nothing. Assumes nothing.
use mathlib.Core.Path.{◌∙◌, sym}
use Rattle.cells.specs.Sizes.{revisions}
use Rattle.cells.specs.Order.{order}
use Rattle.orderfile.specs.File.{numbers_of}
use Rattle.orderfile.proofs.Found.{another_count}
use Rattle.table.specs.Halves.{cells_of}
use Rattle.table.specs.Calls.{is_out}
use Rattle.verifying.proofs.verify.fits.Goals as goal

pub returns-then-count-taken : goal.returns-then-count-taken
returns-then-count-taken c =
    let s = c.args in
    let k = cells_of s.t.now in
    another_count _ revisions (is_out k) (order k) (numbers_of s.numbers.now) (λ e. c.if-count-taken.true (c.count.ensures ∙ e ∙ sym c.taken-taken.ensures.0))
