-- `order::visible::push` meets its contract: the buffer is full, or has room. Assumes nothing.
use native.Mathlib.Omega.{arith}
use Rattle.order.proofs.Laws.{push-full, push-room}
use Rattle.order.proofs.visible.push.Goals as goal

pub returns-then-n-eq-UPDATES : goal.returns-then-n-eq-UPDATES
returns-then-n-eq-UPDATES c = push-full c.args.out.now c.requires.0 c.args.n c.args.x c.if-n-eq-UPDATES.true

pub returns : goal.returns
returns c = push-room c.args.out.now c.requires.0 c.args.n c.args.x (omega arith)
