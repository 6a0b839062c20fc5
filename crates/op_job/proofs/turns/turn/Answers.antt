use Rattle.std.proofs.Common.{sym, subst}
use Rattle.core_exec.specs.Tasks.{AreWaiting}
use Rattle.core_exec.specs.Exec.{ready_of}
use Rattle.op_job.specs.Waits.{WaitsOps}
use Rattle.op_job.proofs.turns.turn.Goals as goal

-- the driver's turn names a task or leaves it waiting, and so does the executor's
pub returns-clause-waits : goal.returns-clause-waits
returns-clause-waits g c = λ waiting.
    c.turn-ran.ensures.waits
    (subst (λ named. AreWaiting (WaitsOps g.D.OpDriver.submits g.D.OpDriver.polls g.D.OpDriver.cancels g.D.Driver.turns g.D.OpDriver.ops)
    c.turn_driver-turned.new.exec.driver (ready_of c.args.now named c.turn_driver-turned.new.exec)) (sym c.as_slice.ensures)
    (c.turn_driver-turned.ensures.waits waiting c.args.now))
