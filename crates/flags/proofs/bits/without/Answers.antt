-- `flags::bits::without` meets its contract: bit by bit. Assumes nothing.
use native.Mathlib.Omega.{arith}
use Rattle.flags.proofs.Bytes.{without-byte}
use Rattle.flags.proofs.bits.without.Goals as goal

pub returns : goal.returns
returns c = without-byte c.args.a c.args.b (omega arith) (omega arith)
