use Rattle.std.proofs.Common.{◌≡◌, ◌∙◌, ◌++◌, false, length, sym, ap, subst, arith}
use Rattle.std.specs.List.{list_any}
use Rattle.ready_driver.specs.ScheduledIo.{Scheduled, is_met, taken, tasks_of}
use Rattle.ready_driver.proofs.Waiting.{none_met}
use Rattle.ready_driver.proofs.Memory.{sound_left, taken_fits}
use Rattle.ready_driver.proofs.scheduled_io.ScheduledIo.take_tasks.Goals as goal

pub returns-then-not-is_any_met-clause-rest : goal.returns-then-not-is_any_met-clause-rest
returns-then-not-is_any_met-clause-rest c =
    let none = none_met c.args.ready c.args.self.now.waiting
    (subst (λ ws. list_any (is_met c.args.ready) ws ≡ false) (ap (λ (s : Scheduled). s.waiting) c.self.view_is)
    (sym c.is_any_met.ensures ∙ c.if-not-is_any_met.true)) in
    ap (λ ws. record c.args.self.now { waiting = ws }) (sym none.1)

pub name_tasks-requires : goal.name_tasks-requires
name_tasks-requires c =
    let fits = taken_fits c.self.inside.rooms c.args.ready _ c.take-tasks.ensures.room c.self.inside.waiting.waiters c.self.invariant in
    let none = ap length c.take-tasks.ensures.empty in
    omega (arith, fits, none)

pub returns-clause-tasks : goal.returns-clause-tasks
returns-clause-tasks c =
    c.name_tasks.ensures.tasks
    ∙ ap (λ ts. ts ++ tasks_of (taken c.args.ready c.self.inside.waiting.waiters)) c.take-tasks.ensures.empty
    ∙ ap (λ (s : Scheduled). tasks_of (taken c.args.ready s.waiting)) c.self.view_is

pub invariant_of-self : goal.invariant_of-self
invariant_of-self c =
    sound_left c.self.inside.waiting.waiters c.leave.new.self.waiters c.self.inside.rooms c.take-tasks.new.self c.args.ready
    c.leave.ensures c.self.invariant c.take-tasks.ensures.kept
