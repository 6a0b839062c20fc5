use Rattle.std.proofs.Common.{◌+◌, sym, subst}
use Rattle.std.specs.Prelude.{OnOk}
use Rattle.ready_driver.specs.LegacyState.{ops_in}
use Rattle.pipe_job.specs.Waits.{FitsWait}
use Rattle.pipe_job.proofs.Frames.{canceled_fits_if}
use Rattle.pipe_job.proofs.pipe_job.cancel_wait.Goals as goal

-- its operation fits the driver still
pub returns-in-Waiting-clause-fits : goal.returns-in-Waiting-clause-fits
returns-in-Waiting-clause-fits g c =
    let old = ops_in c.args.driver.now in
    let new = ops_in c.cancel_op.new.self in
    let does = c.cancel_op.ensures in
    subst (λ w. OnOk c.cancel_op.result (FitsWait new c.args.course.now (c.args.cancels + 1) w)) (sym c.in-Waiting.is)
    (canceled_fits_if old new c.in-Waiting.op c.args.course.now c.args.cancels c.cancel_op.result does.tokens does.requests does.slots
    does.given (subst (FitsWait old c.args.course.now c.args.cancels) c.in-Waiting.is c.requires.fits))
