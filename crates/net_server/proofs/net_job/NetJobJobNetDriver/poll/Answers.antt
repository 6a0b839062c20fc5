use Rattle.net_server.proofs.Frames.{left_apart}
use Rattle.net_server.proofs.net_job.NetJobJobNetDriver.poll.Goals as goal

-- src/net_job.rt:325:5
pub returns-in-Pending-clause-apart : goal.returns-in-Pending-clause-apart
returns-in-Pending-clause-apart g c = λ other s fits apart.
    left_apart (g.D.OpDriver.ops c.args.driver.now.driver) (g.D.OpDriver.ops c.poll_state.new.driver.driver) c.args.self.state
    c.in-Pending.state other.state c.in-Pending.ensures.leaves fits apart

-- src/net_job.rt:325:5
pub returns-in-OutOfMemory-clause-apart : goal.returns-in-OutOfMemory-clause-apart
returns-in-OutOfMemory-clause-apart g c = λ other s fits apart.
    left_apart (g.D.OpDriver.ops c.args.driver.now.driver) (g.D.OpDriver.ops c.poll_state.new.driver.driver) c.args.self.state
    c.in-OutOfMemory.state other.state c.in-OutOfMemory.ensures.leaves fits apart
