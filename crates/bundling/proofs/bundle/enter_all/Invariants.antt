-- `bundling::bundle::enter_all` meets its contract: the entries before `p` are in, and the others fit. Assumes nothing.
use mathlib.Core.Path.{◌≡◌}
use lib.ListN.{drop}
use Rattle.bundles.specs.Packed.{held}
use Rattle.cells.specs.Sizes.{updates}
use Rattle.table.specs.Halves.{cells_of}
use Rattle.bundling.specs.Bundles.{Going, entered_all, sent_check}
use Rattle.std.specs.Prelude.{Ok}
use Rattle.bundling.proofs.bundle.enter_all.Given as goal

abbrev pub invariant-loop-p : goal.invariant-loop-p
invariant-loop-p l =
    Going l.t l.c.0 l.r.0 × (sent_check (held (drop l.p-index l.records)) (cells_of l.t).updates updates ≡ Ok tt)
    × (entered_all l.initial.t l.c.0 l.r.0 (held l.records) ≡ entered_all l.t l.c.0 l.r.0 (held (drop l.p-index l.records)))
