-- `flags::bits::either` meets its contract: bit by bit. Assumes nothing.
use native.Mathlib.Omega.{arith}
use Rattle.flags.proofs.Bytes.{either-byte}
use Rattle.flags.proofs.bits.either.Goals as goal

pub returns : goal.returns
returns c = either-byte c.args.a c.args.b (omega arith) (omega arith)
