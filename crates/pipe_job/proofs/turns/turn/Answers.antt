use Rattle.std.proofs.Common.{sym, subst}
use Rattle.std.specs.Prelude.{IfOk}
use Rattle.core_exec.specs.Exec.{ready_of, tasks_of}
use Rattle.core_exec.specs.Marks.{ready_tasks}
use Rattle.core_exec.specs.Tasks.{AreWaiting, task_at}
use Rattle.core_exec.specs.Turns.{Reaches}
use Rattle.op_job.proofs.Reached.{has_in, misses_if}
use Rattle.pipe_job.specs.Awaits.{WaitsPipe}
use Rattle.pipe_job.proofs.turns.turn.Goals as goal

pub returns-clause-aims : goal.returns-clause-aims
returns-clause-aims g c = λ aims meets. c.turn-ran.ensures.aims aims (c.turn_driver-turned.ensures.aims aims meets)

-- the driver's turn names each, and the executor's comes to it
pub returns-clause-misses : goal.returns-clause-misses
returns-clause-misses g c =
    let turned = c.turn_driver-turned.result in
    let mid = c.turn_driver-turned.new.exec in
    misses_if g.I.NonBlock.view g.I.NonBlock.tells g.I.NonBlock.reporting g.I.NonBlock.memory c.args.exec.now.driver mid.driver
    turned c.turn_driver-turned.ensures.turns c.args.now turned.woken (tasks_of c.args.exec.now) (tasks_of c.turn-ran.new.self)
    c.turn-ran.result (has_in turned.woken)
    (subst (λ ready. IfOk c.turn-ran.result (λ ran. Reaches (ready_tasks c.args.now turned.woken (task_at ready.table))
    (tasks_of c.turn-ran.new.self) ran.polled.items ran.stopped)) c.turn_driver-turned.ensures.ready
    (subst (λ named. IfOk c.turn-ran.result (λ ran. Reaches (ready_tasks c.args.now named (task_at mid.ready.table))
    (tasks_of c.turn-ran.new.self) ran.polled.items ran.stopped)) c.as_slice.ensures c.turn-ran.ensures.reaches))

-- the driver's turn names a task or leaves it waiting, and so does the executor's
pub returns-clause-waits : goal.returns-clause-waits
returns-clause-waits g c = λ waiting.
    c.turn-ran.ensures.waits
    (subst (λ named. AreWaiting (WaitsPipe g.I.NonBlock.files g.I.NonBlock.memory) c.turn_driver-turned.new.exec.driver
    (ready_of c.args.now named c.turn_driver-turned.new.exec))
    (sym c.as_slice.ensures) (c.turn_driver-turned.ensures.waits waiting c.args.now))
