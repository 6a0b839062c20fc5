use Rattle.relay_net.proofs.Opened.{dropped_widens}
use Rattle.relay_net.proofs.relay.ending.drop_accept.Goals as goal

pub returns : goal.returns
returns g c = record {
  widens = dropped_widens g.I.NonBlock.view g.I.NonBlock.tells g.I.NonBlock.memory c.args.driver.now c.drop_op.new.self c.args.op
      c.args.listener c.drop_op.ensures.drops c.requires.pending;
  made = c.drop_op.ensures.drops.handles.object.made;
}
