use Rattle.std.proofs.Common.{ap, not}
use Rattle.relay_net.proofs.Connections.{forth_serves}
use Rattle.relay_net.proofs.Stepping.{forth_forwards}
use Rattle.relay_net.proofs.connection.step_forth.Goals as goal

pub returns-clause-serves : goal.returns-clause-serves
returns-clause-serves g c =
    forth_serves g.I.NonBlock.view g.I.NonBlock.tells c.args.driver.now c.step-came.new.driver c.args.conn.now c.step-came.new.flow
    c.follow.new.ending c.step-came.result c.follow.result c.step-came.ensures.same.0 c.step-came.ensures.same.1 c.requires.fits
    c.step-came.ensures.flows c.follow.ensures.follows (λ marked. c.step-came.ensures.quiet (ap not marked))

pub returns-clause-forwards : goal.returns-clause-forwards
returns-clause-forwards g c =
    forth_forwards g.I.NonBlock.view g.I.NonBlock.tells g.I.NonBlock.memory c.args.driver.now c.step-came.new.driver c.args.conn.now
    c.step-came.new.flow c.follow.new.ending
    c.step-came.result c.follow.result c.requires.fits c.step-came.ensures.flows c.follow.ensures.follows
    (λ memory going can goes. c.step-came.ensures.forwards memory (ap not going) can goes)
