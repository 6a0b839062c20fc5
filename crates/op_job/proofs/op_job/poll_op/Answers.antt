use Rattle.op_job.proofs.Waits.{polled_waits}
use Rattle.op_job.proofs.op_job.poll_op.Goals as goal

-- a poll is a step beside each other operation
pub returns-in-Ok-Pending-clause-stays : goal.returns-in-Ok-Pending-clause-stays
returns-in-Ok-Pending-clause-stays g c =
    polled_waits g.D.OpDriver.submits g.D.OpDriver.polls g.D.OpDriver.cancels g.D.Driver.turns g.D.OpDriver.ops c.args.driver.now
    c.poll_op.new.self c.args.op c.args.task c.poll_op.result c.poll_op.ensures.polls c.poll_op.ensures.tokens
    c.poll_op.ensures.given

pub returns-in-Ok-Ready-clause-stays : goal.returns-in-Ok-Ready-clause-stays
returns-in-Ok-Ready-clause-stays g c =
    polled_waits g.D.OpDriver.submits g.D.OpDriver.polls g.D.OpDriver.cancels g.D.Driver.turns g.D.OpDriver.ops c.args.driver.now
    c.poll_op.new.self c.args.op c.args.task c.poll_op.result c.poll_op.ensures.polls c.poll_op.ensures.tokens
    c.poll_op.ensures.given
