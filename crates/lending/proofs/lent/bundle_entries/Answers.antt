-- `lending::lent::bundle_entries` meets its contract: no more than 64 entries are passed on. Assumes nothing.
use mathlib.Core.Path.{◌∙◌, ap}
use lib.ListN.{length, take}
use Rattle.table.specs.Calls.{entries_out}
use Rattle.lending.proofs.lent.bundle_entries.Goals as goal

pub returns : goal.returns
returns c =
    let s = c.args in
    (c.bundle_of.ensures.0 ∙ ap (λ k. entries_out s.t.now s.client s.revision (take k s.entries) (length s.board.now)) c.among-n.ensures, c.bundle_of.ensures.1)
