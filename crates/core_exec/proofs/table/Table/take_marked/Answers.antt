use Rattle.std.proofs.Common.{◌≡◌, ◌∙◌, ap, sym, arith, Some}
use Rattle.std.specs.Option.{option_copied_mut}
use Rattle.core_exec.specs.declared.table.Task.{Task}
use Rattle.core_exec.specs.Tasks.{cost, task_at}
use Rattle.core_exec.proofs.Counted.{unmarked_written}
use Rattle.core_exec.proofs.table.Table.take_marked.Goals as goal

-- a task without a mark stays as it is
pub returns-then-unmarked-clause-unmarked : goal.returns-then-unmarked-clause-unmarked
returns-then-unmarked-clause-unmarked g c =
    let found : task_at c.args.self.now c.args.t ≡ Some c.in-Some.task.now = sym c.get_mut.ensures.value
    ∙ ap option_copied_mut c.in-Some.is in
    let counted = unmarked_written c.args.self.now.map (c.get_mut.follows.lender c.in-Some.task.now) c.args.t c.in-Some.task.now
    c.in-Some.task.now found (c.get_mut.follows.holds c.in-Some.task.now) in
    omega (arith, counted)

-- a marked one is written over
pub returns-in-Some-take-clause-unmarked : goal.returns-in-Some-take-clause-unmarked
returns-in-Some-take-clause-unmarked g c =
    let found : task_at c.args.self.now c.args.t ≡ Some c.in-Some.task.now = sym c.get_mut.ensures.value
    ∙ ap option_copied_mut c.in-Some.is in
    let now : Task g.row.J.Denot = record {
      job = c.take.new.self;
      marked = c.in-Some.task.now.marked;
      deadline = c.in-Some.task.now.deadline;
      canceled = c.in-Some.task.now.canceled;
    } in
    let counted = unmarked_written c.args.self.now.map (c.get_mut.follows.lender now) c.args.t c.in-Some.task.now now found
    (c.get_mut.follows.holds now) in
    let costs : cost (task_at c.args.self.now c.args.t) ≡ cost (Some c.in-Some.task.now) = ap cost found in
    omega (arith, counted, costs)
