use Rattle.ready_driver.specs.LegacyState.{ops_in}
use Rattle.net_stream.proofs.Told.{all_by_cancel}
use Rattle.net_stream.proofs.Went.{sends_went}
use Rattle.net_stream.proofs.connection.Connection.send_ready.Goals as goal

pub returns-clause-went : goal.returns-clause-went
returns-clause-went g c = λ tells.
    (sends_went g.I.NonBlock.view g.I.NonBlock.tells g.I.NonBlock.memory g.I.NonBlock.files g.I.Calls.called g.met.I.NonBlock.calls
    c.args.driver.now c.send.new.driver c.args.task c.args.self.now c.send.new.self c.send.result c.send.ensures.sends
    c.waits.ensures.none (all_by_cancel (ops_in c.args.driver.now) c.args.self.now.outgoing.op c.given.ensures.canceled)
    c.requires.fits.sends tells).0

pub returns-clause-handles : goal.returns-clause-handles
returns-clause-handles g c = λ tells.
    (sends_went g.I.NonBlock.view g.I.NonBlock.tells g.I.NonBlock.memory g.I.NonBlock.files g.I.Calls.called g.met.I.NonBlock.calls
    c.args.driver.now c.send.new.driver c.args.task c.args.self.now c.send.new.self c.send.result c.send.ensures.sends
    c.waits.ensures.none (all_by_cancel (ops_in c.args.driver.now) c.args.self.now.outgoing.op c.given.ensures.canceled)
    c.requires.fits.sends tells).1
