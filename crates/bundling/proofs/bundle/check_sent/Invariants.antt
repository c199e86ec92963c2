-- `bundling::bundle::check_sent` meets its contract: no entry before `i` is refused. Assumes nothing.
use Prim.Native.Nat.{◌+◌}
use mathlib.Core.Path.{◌≡◌}
use lib.ListN.{drop}
use Rattle.bundles.specs.Packed.{held}
use Rattle.bundling.specs.Bundles.{sent_check}
use Rattle.bundling.proofs.bundle.check_sent.Given as goal

abbrev pub invariant-loop-i : goal.invariant-loop-i
invariant-loop-i l = sent_check (held l.records) l.taken l.most ≡ sent_check (held (drop l.i l.records)) (l.taken + l.i) l.most
