use Rattle.std.proofs.Common.{◌++◌, ◌∙◌, ap, length, arith}
use Rattle.std.specs.Prelude.{filter, map}
use Rattle.ready_driver.specs.ScheduledIo.{taken, tasks_of}
use Rattle.ready_driver.specs.WaitList.{Line, is_taken, task_of}
use Rattle.ready_driver.proofs.Gaps.{taken_count, taken_tasks}
use Rattle.ready_driver.proofs.scheduled_io.wait_list.WaitList.name_tasks.Goals as goal

pub name_taken-requires : goal.name_taken-requires
name_taken-requires c =
    let here = ap (λ es. length (filter (is_taken c.args.ready) es)) c.deref.ensures.value in
    let count = taken_count c.args.ready c.self.inside.entries.items in
    let view = ap (λ (l : Line). length (taken c.args.ready l.waiters)) c.self.view_is in
    let room = c.requires in
    omega (arith, here, count, view, room)

pub returns-clause-tasks : goal.returns-clause-tasks
returns-clause-tasks c =
    c.name_taken.ensures.tasks
    ∙ ap (λ es. c.args.tasks.now.items ++ map task_of (filter (is_taken c.args.ready) es)) c.deref.ensures.value
    ∙ ap (λ ts. c.args.tasks.now.items ++ ts) (taken_tasks c.args.ready c.self.inside.entries.items)
    ∙ ap (λ (l : Line). c.args.tasks.now.items ++ tasks_of (taken c.args.ready l.waiters)) c.self.view_is
