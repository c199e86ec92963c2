-- `querying::standing::standing_at` meets its contract: the halves of the table are lent. Assumes nothing.
use Rattle.table.specs.Halves.{high, low}
use Rattle.table.proofs.Halves.{high-length, low-length}
use Rattle.querying.proofs.Along.{standing-along}
use Rattle.querying.proofs.standing.standing_at.Goals as goal

pub standing_on-requires : goal.standing_on-requires
unfolding low
standing_on-requires c =
    (low-length c.args.t.now c.requires.0, c.requires.1, high-length c.args.t.now c.requires.0, c.requires.2)

pub returns : goal.returns
unfolding low high
returns c =
    let s = c.args in
    standing-along s.t.now s.r.0 s.bib c.standing_on.result c.requires.0 c.standing_on.ensures
