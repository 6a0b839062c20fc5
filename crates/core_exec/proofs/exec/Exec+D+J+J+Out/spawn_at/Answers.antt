use Rattle.std.proofs.Common.{◌+◌, ◌∙◌, ap}
use Rattle.core_exec.specs.Tasks.{task_at}
use Rattle.core_exec.proofs.Placing.{placed_spawn}
use Rattle.core_exec.proofs.exec.Exec+D+J+J+Out.spawn_at.Goals as goal

-- the new task has a place of its own
pub returns-in-Ok-clause-placed : goal.returns-in-Ok-clause-placed
returns-in-Ok-clause-placed g c =
    placed_spawn c.args.self.now.spawned (c.reserve.new.self.spawned + 1) (task_at c.args.self.now.ready.table) (task_at c.add.new.self)
    c.args.self.now.outputs.items c.reserve.new.self.outputs.items c.args.job c.args.deadline
    (ap (λ n. n + 1) c.reserve.ensures.numbers) c.in-Ok.ensures.this
    (λ s other. c.add.ensures.rest s other ∙ ap (λ x. task_at x s) (c.add_number.ensures.same.0 ∙ c.reserve.ensures.tasks.0))
    c.reserve.ensures.items c.requires.stands.placed
