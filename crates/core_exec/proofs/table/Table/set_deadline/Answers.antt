use Rattle.std.proofs.Common.{◌≡◌, ◌∙◌, ap, sym, arith, Some}
use Rattle.std.specs.Option.{option_copied_mut}
use Rattle.core_exec.specs.declared.table.Task.{Task}
use Rattle.core_exec.specs.Tasks.{task_at}
use Rattle.core_exec.proofs.Counted.{unmarked_written}
use Rattle.core_exec.proofs.table.Table.set_deadline.Goals as goal

-- the task was written over
pub returns-in-Some-clause-unmarked : goal.returns-in-Some-clause-unmarked
returns-in-Some-clause-unmarked g c =
    let found : task_at c.args.self.now c.args.t ≡ Some c.in-Some.task.now = sym c.get_mut.ensures.value
    ∙ ap option_copied_mut c.in-Some.is in
    let now : Task g.row.J.Denot = record {
      job = c.in-Some.task.now.job;
      marked = c.in-Some.task.now.marked;
      deadline = c.args.deadline;
      canceled = c.in-Some.task.now.canceled;
    } in
    let counted = unmarked_written c.args.self.now.map (c.get_mut.follows.lender now) c.args.t c.in-Some.task.now now found
    (c.get_mut.follows.holds now) in
    omega (arith, counted)
