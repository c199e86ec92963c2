-- `flags::bits::set` meets its contract: bit by bit. Assumes nothing.
use native.Mathlib.Omega.{arith}
use Rattle.flags.proofs.Bytes.{set-byte}
use Rattle.flags.proofs.bits.set.Goals as goal

pub returns : goal.returns
returns c = set-byte c.args.b c.args.k (omega arith) (omega arith)
