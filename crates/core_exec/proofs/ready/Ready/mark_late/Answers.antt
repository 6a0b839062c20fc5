use Rattle.std.proofs.Common.{◌≡◌, ◌<◌, ◌∙◌, subst}
use Rattle.core_exec.specs.Tasks.{task_at}
use Rattle.core_exec.specs.Marks.{AreSet, MarkedLate}
use Rattle.core_exec.proofs.Late.{late_then, late_all}
use Rattle.core_exec.proofs.ready.Ready.mark_late.Goals as goal

-- no deadline that has come is left
pub returns-clause-each : goal.returns-clause-each
returns-clause-each g c = λ s.
    let new = c.mark_first.new.self in
    let same : new.moment ≡ c.args.self.now.moment = c.mark_first.ensures.moment ∙ c.loop.invariant.moment in
    late_all c.args.self.now.moment s (task_at c.args.self.now.table) (task_at new.table) new.deadlines
    (subst (λ m. AreSet m (task_at new.table) new.deadlines) same c.mark_first.ensures.deadlines)
    (λ d r on. subst (λ m. m < d) same (c.mark_first.ensures.none c.loop-test.false d r on))
    (late_then c.args.self.now.moment (task_at c.args.self.now.table s) (task_at c.loop.self.table s) (task_at new.table s)
    (c.loop.invariant.each s)
    (subst (λ m. MarkedLate m (task_at c.loop.self.table s) (task_at new.table s)) c.loop.invariant.moment (c.mark_first.ensures.each s)))
