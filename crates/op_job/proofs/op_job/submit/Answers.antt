use Rattle.op_job.proofs.Frames.{submitted_apart, submitted_fits}
use Rattle.op_job.proofs.Waits.{submitted_waits}
use Rattle.op_job.proofs.op_job.submit.Goals as goal

-- a submission is a step beside each operation, and so is the poll of the new one, which is no other's
pub returns-in-Ok-clause-stays : goal.returns-in-Ok-clause-stays
returns-in-Ok-clause-stays g c = λ other s fits apart waits.
    let old = g.D.OpDriver.ops c.args.driver.now in
    let mid = g.D.OpDriver.ops c.submit_op.new.self in
    c.poll_op.ensures.stays other s (submitted_fits old mid c.in-Ok.op c.in-Ok.ensures.token other fits)
    (submitted_apart old mid c.in-Ok.op c.in-Ok.ensures.token other fits)
    (submitted_waits g.D.OpDriver.submits g.D.OpDriver.polls g.D.OpDriver.cancels g.D.Driver.turns g.D.OpDriver.ops c.args.driver.now
    c.submit_op.new.self c.args.request c.submit_op.result c.submit_op.ensures.submits other s fits
    (submitted_fits old mid c.in-Ok.op c.in-Ok.ensures.token other fits) waits)
