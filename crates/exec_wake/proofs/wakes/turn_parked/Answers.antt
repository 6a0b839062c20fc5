use Rattle.std.proofs.Common.{ℕ, ◌≡◌, sym, subst}
use Rattle.core_exec.specs.Marks.{ready_tasks}
use Rattle.core_exec.specs.Tasks.{AreWaiting}
use Rattle.core_exec.specs.Exec.{TurnsTo, ready_of, tasks_of}
use Rattle.exec_wake.specs.Wakes.{drained_in}
use Rattle.exec_wake.proofs.Waking.{marked_all, turned_all, waiting_all}
use Rattle.exec_wake.proofs.wakes.turn_parked.Goals as goal

-- neither the marks nor the turn changes an aim
pub returns-in-Ok-clause-aims : goal.returns-in-Ok-clause-aims
returns-in-Ok-clause-aims g c = λ aims meets. c.in-Ok.ensures.aims aims (c.wake_parked.ensures.aims aims meets)

-- a turn behind the marks of the drained wakers is one that names their tasks too
pub returns-in-Ok-clause-turns : goal.returns-in-Ok-clause-turns
returns-in-Ok-clause-turns g c =
    turned_all g.J.Job.polls g.J.Job.cancels g.J.Job.aim c.args.now (drained_in c.args.parked.now) c.args.parked.now.turned.woken
    (tasks_of c.args.exec.now) (tasks_of c.wake_parked.new.exec) (tasks_of c.turn.new.self) c.in-Ok.ran.polled.items
    c.in-Ok.ran.canceled.items c.in-Ok.ran.done.items c.in-Ok.ran.stopped c.wake_parked.ensures.tasks
    (subst (λ named. TurnsTo g.J.Job.polls g.J.Job.cancels g.J.Job.aim c.args.now named c.wake_parked.new.exec c.turn.new.self c.in-Ok.ran)
    c.as_slice.ensures c.in-Ok.ensures.turns)

-- and so are its marks, where it polled no task
pub returns-in-Err-clause-marked : goal.returns-in-Err-clause-marked
returns-in-Err-clause-marked g c =
    marked_all c.args.now (drained_in c.args.parked.now) c.args.parked.now.turned.woken (tasks_of c.args.exec.now)
    (tasks_of c.wake_parked.new.exec) (tasks_of c.turn.new.self) c.wake_parked.ensures.tasks
    (subst (λ named. (t : ℕ) → tasks_of c.turn.new.self t ≡ ready_of c.args.now named c.wake_parked.new.exec t) c.as_slice.ensures
    c.in-Err.ensures.marked)

-- each task that waits does so behind the marks, and then behind the turn
pub returns-in-Ok-clause-waits : goal.returns-in-Ok-clause-waits
returns-in-Ok-clause-waits g c = λ waiting.
    c.turn.ensures.waits (subst (λ named. AreWaiting g.J.Job.waits c.wake_parked.new.exec.driver
    (ready_tasks c.args.now named (tasks_of c.wake_parked.new.exec))) (sym c.as_slice.ensures)
    (waiting_all g.J.Job.waits c.args.now (drained_in c.args.parked.now) c.args.parked.now.turned.woken c.args.exec.now.driver
    c.wake_parked.new.exec.driver (tasks_of c.args.exec.now) (tasks_of c.wake_parked.new.exec) c.wake_parked.ensures.tasks
    c.wake_parked.ensures.kept.same_driver waiting))

-- the same where it polled no task
pub returns-in-Err-clause-waits : goal.returns-in-Err-clause-waits
returns-in-Err-clause-waits g c = λ waiting.
    c.turn.ensures.waits (subst (λ named. AreWaiting g.J.Job.waits c.wake_parked.new.exec.driver
    (ready_tasks c.args.now named (tasks_of c.wake_parked.new.exec))) (sym c.as_slice.ensures)
    (waiting_all g.J.Job.waits c.args.now (drained_in c.args.parked.now) c.args.parked.now.turned.woken c.args.exec.now.driver
    c.wake_parked.new.exec.driver (tasks_of c.args.exec.now) (tasks_of c.wake_parked.new.exec) c.wake_parked.ensures.tasks
    c.wake_parked.ensures.kept.same_driver waiting))
