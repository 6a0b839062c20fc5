use Rattle.std.proofs.Common.{ap, not}
use Rattle.relay_net.proofs.Connections.{back_serves}
use Rattle.relay_net.proofs.Stepping.{back_forwards, none_forwards}
use Rattle.relay_net.proofs.connection.step_back.Goals as goal

pub returns-in-Some-clause-serves : goal.returns-in-Some-clause-serves
returns-in-Some-clause-serves g c =
    back_serves g.I.NonBlock.view g.I.NonBlock.tells c.args.driver.now c.step-came.new.driver c.args.conn.now c.in-Some.flow
    c.step-came.new.flow c.follow.new.ending c.step-came.result c.follow.result c.in-Some.is c.step-came.ensures.same.0
    c.step-came.ensures.same.1 c.requires.fits c.step-came.ensures.flows c.follow.ensures.follows
    (λ marked. c.step-came.ensures.quiet (ap not marked))

pub returns-in-Some-clause-forwards : goal.returns-in-Some-clause-forwards
returns-in-Some-clause-forwards g c =
    back_forwards g.I.NonBlock.view g.I.NonBlock.tells g.I.NonBlock.memory c.args.driver.now c.step-came.new.driver c.args.conn.now
    c.in-Some.flow c.step-came.new.flow c.follow.new.ending
    c.step-came.result c.follow.result c.in-Some.is c.requires.fits c.step-came.ensures.flows c.follow.ensures.follows
    (λ memory going can goes. c.step-came.ensures.forwards memory (ap not going) can goes)

pub returns-in-None-clause-forwards : goal.returns-in-None-clause-forwards
returns-in-None-clause-forwards g c =
    none_forwards g.I.NonBlock.view g.I.NonBlock.tells g.I.NonBlock.memory c.args.driver.now c.args.conn.now _ c.in-None.is c.requires.fits
