use Rattle.std.proofs.Common.{subst}
use Rattle.core_exec.specs.Exec.{tasks_of}
use Rattle.exec_wake.specs.Wakes.{MarksTasks, tasks_in}
use Rattle.exec_wake.proofs.Waking.{marks_both}
use Rattle.exec_wake.proofs.wakes.wake_parked.Goals as goal

-- the tasks of the first list are marked, and then those of the second
pub returns-clause-tasks : goal.returns-clause-tasks
returns-clause-tasks g c =
    marks_both (tasks_in c.args.parked.now.remote.first) (tasks_in c.args.parked.now.remote.again) (tasks_of c.args.exec.now)
    (tasks_of c.wake_all.new.exec) (tasks_of c.wake_all-2.new.exec)
    (subst (λ ws. MarksTasks (tasks_in ws) (tasks_of c.args.exec.now) (tasks_of c.wake_all.new.exec)) c.as_slice.ensures
    c.wake_all.ensures.tasks)
    (subst (λ ws. MarksTasks (tasks_in ws) (tasks_of c.wake_all.new.exec) (tasks_of c.wake_all-2.new.exec)) c.as_slice-2.ensures
    c.wake_all-2.ensures.tasks)
