use Rattle.ready_driver.specs.LegacyState.{ops_in}
use Rattle.net_stream.proofs.Told.{all_by_cancel, receives_came}
use Rattle.net_stream.proofs.connection.Connection.receive_ready.Goals as goal

pub returns-clause-came : goal.returns-clause-came
returns-clause-came g c = λ tells.
    (receives_came g.I.NonBlock.view g.I.NonBlock.tells g.I.NonBlock.memory g.I.NonBlock.files g.I.Calls.called g.met.I.NonBlock.calls
    c.args.driver.now c.receive.new.driver c.args.task c.args.self.now c.receive.new.self c.receive.result c.receive.ensures.receives
    (all_by_cancel (ops_in c.args.driver.now) c.args.self.now.incoming.op c.given.ensures.canceled) c.requires.fits.receives tells).0

pub returns-clause-handles : goal.returns-clause-handles
returns-clause-handles g c = λ tells.
    (receives_came g.I.NonBlock.view g.I.NonBlock.tells g.I.NonBlock.memory g.I.NonBlock.files g.I.Calls.called g.met.I.NonBlock.calls
    c.args.driver.now c.receive.new.driver c.args.task c.args.self.now c.receive.new.self c.receive.result c.receive.ensures.receives
    (all_by_cancel (ops_in c.args.driver.now) c.args.self.now.incoming.op c.given.ensures.canceled) c.requires.fits.receives tells).1
