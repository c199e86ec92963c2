-- `orderfile::rising::rise` meets its contract: what is left of the list rises above the last place. Assumes nothing.
use mathlib.Core.Path.{◌≡◌}
use lib.ListN.{drop}
use Rattle.orderfile.specs.Test.{rises}
use Rattle.orderfile.specs.Checks.{place_at}
use Rattle.orderfile.proofs.rising.rise.Given as goal

abbrev pub invariant-loop-u : goal.invariant-loop-u
invariant-loop-u l = rises (place_at l.places) 0 l.list ≡ rises (place_at l.places) l.last (drop l.u-index l.list)
