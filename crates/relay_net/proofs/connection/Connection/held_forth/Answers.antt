use Rattle.relay_net.proofs.connection.Connection.held_forth.Goals as goal

pub returns : goal.returns
returns c = λ ops fits. c.held.ensures c.args.self.now.room ops fits.0
