-- No claim rests on this file: it serves the code.
-- The range checks of a revision and of a client number: 01, "box numbers 0 to 63, tablets 0 to 15".
use Rattle.std.specs.Prelude.{ℕ, cond, ltb, Result, Ok, Err}
use Rattle.cells.specs.Sizes.{clients, revisions}
use Rattle.sizes.specs.declared.numbers.Client.{Client}
use Rattle.sizes.specs.declared.numbers.OutOfRange.{OutOfRange}
use Rattle.sizes.specs.declared.numbers.Revision.{Revision}

unfoldable pub revision_of : ℕ → Result Revision OutOfRange
revision_of n = cond (ltb n revisions) (Ok (record { 0 = n })) (Err (record {}))

unfoldable pub client_of : ℕ → Result Client OutOfRange
client_of n = cond (ltb n clients) (Ok (record { 0 = n })) (Err (record {}))
