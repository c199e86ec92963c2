-- `packing::pack::pack_reply` meets its contract: the parts of the answer, each in its place. Assumes nothing.
use Rattle.packing.specs.Packed.{packed_reply}
use Rattle.packing.proofs.pack.pack_reply.Goals as goal

pub returns : goal.returns
unfolding packed_reply
returns c =
    rw (c.from.ensures, c.state_number.ensures.0, c.from-2.ensures, c.from-3.ensures, c.from-4.ensures)
