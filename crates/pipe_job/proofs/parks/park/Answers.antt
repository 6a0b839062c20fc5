use Rattle.std.proofs.Common.{subst}
use Rattle.std.specs.Prelude.{IfOk}
use Rattle.core_exec.specs.Exec.{tasks_of}
use Rattle.core_exec.specs.Marks.{ready_tasks}
use Rattle.core_exec.specs.Tasks.{task_at}
use Rattle.core_exec.specs.Turns.{Reaches}
use Rattle.exec_wake.specs.Wakes.{drained_in, named_by}
use Rattle.op_job.proofs.Reached.{has_behind, misses_if}
use Rattle.pipe_job.proofs.parks.park.Goals as goal

pub returns-clause-aims : goal.returns-clause-aims
returns-clause-aims g c = λ aims meets. c.turn_parked-ran.ensures.aims aims (c.park_driver-parked.ensures.aims aims meets)

-- the driver's turn names each, and the executor's comes to it
pub returns-clause-misses : goal.returns-clause-misses
returns-clause-misses g c =
    let parked = c.park_driver-parked.result in
    let mid = c.park_driver-parked.new.exec in
    misses_if g.I.NonBlock.view g.I.NonBlock.tells g.I.NonBlock.reporting g.I.NonBlock.memory c.args.exec.now.driver mid.driver
    parked.turned c.park_driver-parked.ensures.turns c.args.now (named_by parked) (tasks_of c.args.exec.now)
    (tasks_of c.turn_parked-ran.new.exec) c.turn_parked-ran.result (has_behind (drained_in parked) parked.turned.woken)
    (subst (λ ready. IfOk c.turn_parked-ran.result (λ ran. Reaches (ready_tasks c.args.now (named_by parked) (task_at ready.table))
    (tasks_of c.turn_parked-ran.new.exec) ran.polled.items ran.stopped)) c.park_driver-parked.ensures.ready
    c.turn_parked-ran.ensures.reaches)

-- the park names a task or leaves it waiting, and so does the executor's turn
pub returns-clause-waits : goal.returns-clause-waits
returns-clause-waits g c = λ waiting. c.turn_parked-ran.ensures.waits (c.park_driver-parked.ensures.waits waiting c.args.now)
