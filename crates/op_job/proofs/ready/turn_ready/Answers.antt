use Rattle.core_exec.specs.Exec.{tasks_of}
use Rattle.op_job.proofs.KeptAll.{all_kept, wakes_if}
use Rattle.op_job.proofs.Reached.{has_in, misses_if}
use Rattle.op_job.proofs.ready.turn_ready.Goals as goal

-- the driver's turn names each, and the executor's comes to it
pub returns-clause-misses : goal.returns-clause-misses
returns-clause-misses g c = misses_if g.I.NonBlock.view g.I.NonBlock.tells g.I.NonBlock.reporting g.I.NonBlock.memory
    c.args.exec.now.driver c.turn.ensures.driver.0 c.turn.result.0 c.turn.ensures.driver.1 c.args.now c.turn.result.0.woken
    (tasks_of c.args.exec.now) (tasks_of c.turn.new.exec) c.turn.result.1 (has_in c.turn.result.0.woken) c.turn.ensures.reaches

-- the driver's turn names a task or leaves it waiting, and so does the executor's
pub returns-clause-waits : goal.returns-clause-waits
returns-clause-waits g c = c.turn.ensures.waits

-- what waits stands in the driver
pub returns-clause-kept : goal.returns-clause-kept
returns-clause-kept g c = λ waiting.
    all_kept g.I.NonBlock.files g.B.IoBufMut.buffer g.I.Calls.called g.I.NonBlock.view g.I.NonBlock.tells g.I.NonBlock.reporting
    g.I.NonBlock.memory c.turn.new.exec.driver (tasks_of c.turn.new.exec) (c.turn.ensures.waits waiting)

-- the turn comes to each that is named or marked
pub returns-clause-wakes : goal.returns-clause-wakes
returns-clause-wakes g c = λ waiting.
    wakes_if g.I.NonBlock.files g.B.IoBufMut.buffer g.I.Calls.called g.I.NonBlock.view g.I.NonBlock.tells g.I.NonBlock.reporting
    g.I.NonBlock.memory c.args.now c.turn.result.0.woken c.args.exec.now.driver c.turn.ensures.driver.0 c.turn.result.0
    (tasks_of c.args.exec.now) (tasks_of c.turn.new.exec) c.turn.result.1 c.turn.ensures.driver.1 (λ t none. none)
    c.requires.sound.all_fit waiting c.turn.ensures.reaches
