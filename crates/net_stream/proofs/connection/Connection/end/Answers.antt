use Rattle.std.proofs.Common.{subst}
use Rattle.net_stream.specs.Drives.{DropsFor}
use Rattle.net_stream.proofs.connection.Connection.end.Goals as goal

pub returns-clause-drops : goal.returns-clause-drops
returns-clause-drops g c = record {
  mid = c.drop_waiting.new.driver;
  receive = subst (DropsFor g.D.OpDriver.drops c.args.driver.now c.drop_waiting.new.driver) c.into_op.ensures c.drop_waiting.ensures.drops;
  send = subst (DropsFor g.D.OpDriver.drops c.drop_waiting.new.driver c.drop_waiting-2.new.driver) c.into_op-2.ensures
      c.drop_waiting-2.ensures.drops;
}
