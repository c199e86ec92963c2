-- `places::gaps::open` meets its contract: what stood at `i` and behind has moved. Assumes nothing.
use native.Mathlib.Omega.{arith}
use Rattle.places.proofs.Moved.{opened}
use Rattle.places.proofs.gaps.open.Goals as goal

pub returns : goal.returns
returns c =
    let s = c.args in
    opened s.i s.t.now c.copy_within.new.self s.x (omega arith) (omega arith) c.copy_within.ensures.after
