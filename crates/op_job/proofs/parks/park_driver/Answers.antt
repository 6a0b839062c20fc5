use Rattle.core_exec.specs.Exec.{tasks_of}
use Rattle.exec_wake.specs.Wakes.{drained_in, named_by}
use Rattle.op_job.proofs.KeptAll.{turned_kept}
use Rattle.op_job.proofs.Reached.{unnamed_behind}
use Rattle.op_job.proofs.parks.park_driver.Goals as goal

-- the driver's turn is a step beside each task that it doesn't name
pub returns-clause-waits : goal.returns-clause-waits
returns-clause-waits g c = λ waiting now.
    let parked = c.park_timeout.result in
    turned_kept g.I.NonBlock.files g.B.IoBufMut.buffer g.I.Calls.called g.I.NonBlock.view g.I.NonBlock.tells g.I.NonBlock.reporting
    g.I.NonBlock.memory now (named_by parked) c.args.exec.now.driver c.park_timeout.new.self parked.turned (tasks_of c.args.exec.now)
    c.park_timeout.ensures.turns (unnamed_behind (drained_in parked) parked.turned.woken) c.requires.sound.all_fit waiting
