use Rattle.net_server.specs.Serving.{Leaves}
use Rattle.net_server.proofs.serving.Serving.poll.Given as goal

-- What all passes leave.
abbrev pub invariant-loop : goal.invariant-loop
invariant-loop g l = Leaves (g.D.OpDriver.ops l.initial.driver) l.initial.self.conn (g.D.OpDriver.ops l.driver) l.self.conn
