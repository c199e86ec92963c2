-- `lending::lent::bundle_of` meets its contract: it is the call on the entries' records. Assumes nothing.
use mathlib.Core.Path.{◌∙◌, ap}
use lib.ListN.{length}
use Rattle.bundles.specs.Packed.{records_in}
use Rattle.table.specs.Calls.{bundle_out}
use Rattle.lending.proofs.Packed.{packed_is}
use Rattle.lending.proofs.lent.bundle_of.Goals as goal

pub returns : goal.returns
returns c =
    let s = c.args in (
      c.bundle_packed.ensures.0
          ∙ ap (λ p. bundle_out s.t.now s.client s.revision (records_in p) (length s.board.now)) c.pack.ensures
          ∙ packed_is s.t.now s.client s.revision s.es.now (length s.board.now),
      c.bundle_packed.ensures.1,
    )
