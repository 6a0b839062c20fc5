use Rattle.std.proofs.Common.{refl}
use Rattle.core_exec.specs.Exec.{tasks_of}
use Rattle.op_job.proofs.Reached.{has_in}
use Rattle.pipe_job.proofs.Going.{turned_waits}
use Rattle.pipe_job.proofs.turns.turn_driver.Goals as goal

-- the turn names a task, or leaves it waiting
pub returns-clause-waits : goal.returns-clause-waits
returns-clause-waits g c = λ waiting now.
    turned_waits g.I.NonBlock.files g.I.NonBlock.view g.I.NonBlock.tells g.I.NonBlock.reporting g.I.NonBlock.memory c.args.exec.now.driver
    c.submit.new.self
    c.submit.result c.submit.ensures.turns now c.submit.result.woken (tasks_of c.args.exec.now) (tasks_of c.args.exec.now)
    (has_in c.submit.result.woken) refl waiting
