use Rattle.session_core.proofs.Relaying.{relay-or-none}
use Rattle.session_core.proofs.command.relay_of.Goals as goal

pub returns-in-None : goal.returns-in-None
returns-in-None c =
    relay-or-none c.args.port.now c.args.to.now c.args.connections.now c.args.rounds.now c.in-Some.to c.in-Some.ensures c.in-None.ensures
