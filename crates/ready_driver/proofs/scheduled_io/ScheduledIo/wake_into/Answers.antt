use Rattle.std.proofs.Common.{◌∙◌, ◌++◌, length, ap, arith}
use Rattle.ready_driver.specs.ScheduledIo.{Scheduled, is_met, taken, tasks_of}
use Rattle.ready_driver.proofs.Waiting.{filtered-fits, named_added}
use Rattle.ready_driver.proofs.Memory.{sound_left}
use Rattle.ready_driver.proofs.scheduled_io.ScheduledIo.wake_into.Goals as goal

pub name_tasks-requires : goal.name_tasks-requires
name_tasks-requires c =
    let fewer = filtered-fits (is_met c.args.ready) c.self.inside.waiting.waiters in
    let view = ap (λ (s : Scheduled). length s.waiting) c.self.view_is in
    let room = c.requires in
    omega (arith, fewer, view, room)

pub returns-clause-tasks : goal.returns-clause-tasks
returns-clause-tasks c =
    c.name_tasks.ensures.tasks
    ∙ ap (λ (s : Scheduled). c.args.tasks.now.items ++ tasks_of (taken c.args.ready s.waiting)) c.self.view_is

pub invariant_of-self : goal.invariant_of-self
invariant_of-self c =
    sound_left c.self.inside.waiting.waiters c.leave.new.self.waiters c.self.inside.rooms c.self.inside.rooms c.args.ready
    c.leave.ensures c.self.invariant (λ d unmet. omega arith)

pub returns-clause-named : goal.returns-clause-named
returns-clause-named c =
    named_added c.args.ready c.args.self.now.waiting c.args.tasks.now.items c.name_tasks.new.tasks.items
    (c.name_tasks.ensures.tasks
    ∙ ap (λ (s : Scheduled). c.args.tasks.now.items ++ tasks_of (taken c.args.ready s.waiting)) c.self.view_is)
