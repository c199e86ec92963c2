-- No claim rests on this file: it serves the code.
-- The kinds whose effect is the same whatever stood before: "Time: the value becomes v", "Strike makes it struck".
use Rattle.std.specs.Prelude.{Bool, true, false}
use Rattle.updates.specs.declared.kind.Kind.{Kind}
use Rattle.updates.specs.declared.kind.Kind.TheVariants.{Time, Earliest, Penalty, Strike}

unfoldable pub absolute : Kind → Bool
absolute Time = true
absolute Earliest = false
absolute Penalty = false
absolute Strike = true
