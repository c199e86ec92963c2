-- `linking::own::link` meets its contract: two parts are written. Assumes nothing.
use Rattle.linking.proofs.Writes.{link-done}
use Rattle.linking.proofs.own.link.Goals as goal

pub returns : goal.returns
returns c =
    link-done c.args.d.now c.requires.0 _ _ c.args.u c.args.v c.link_low.ensures c.link_high.ensures
