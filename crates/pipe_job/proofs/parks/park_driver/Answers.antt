use Rattle.std.proofs.Common.{refl}
use Rattle.core_exec.specs.Exec.{tasks_of}
use Rattle.exec_wake.specs.Wakes.{drained_in, named_by}
use Rattle.op_job.proofs.Reached.{has_behind}
use Rattle.pipe_job.proofs.Going.{turned_waits}
use Rattle.pipe_job.proofs.parks.park_driver.Goals as goal

-- the park names a task, or leaves it waiting
pub returns-clause-waits : goal.returns-clause-waits
returns-clause-waits g c = λ waiting now.
    let parked = c.park_timeout.result in
    turned_waits g.I.NonBlock.files g.I.NonBlock.view g.I.NonBlock.tells g.I.NonBlock.reporting g.I.NonBlock.memory c.args.exec.now.driver
    c.park_timeout.new.self parked.turned c.park_timeout.ensures.turns now (named_by parked) (tasks_of c.args.exec.now)
    (tasks_of c.args.exec.now) (has_behind (drained_in parked) parked.turned.woken) refl waiting
