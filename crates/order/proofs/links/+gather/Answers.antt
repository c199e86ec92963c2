-- `order::links::gather` meets its contract: of no update nothing is put down. Assumes nothing.
use Rattle.order.proofs.Laws.{gather_none}
use Rattle.order.proofs.links.+gather.Goals as goal

pub returns-then-n-eq0 : goal.returns-then-n-eq0
returns-then-n-eq0 t c = gather_none _ _ _ _ c.if-n-eq0.true
