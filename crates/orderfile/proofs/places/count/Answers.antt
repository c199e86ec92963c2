-- `orderfile::places::count` meets its contract: two bytes a number. Assumes nothing.
use mathlib.Core.Path.{sym}
use Rattle.orderfile.proofs.Numbers.{numbers-length}
use Rattle.orderfile.proofs.places.count.Goals as goal

pub returns : goal.returns
returns c = sym (numbers-length c.args.b.now)
