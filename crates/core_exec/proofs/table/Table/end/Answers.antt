use Rattle.std.proofs.Common.{◌≡◌, ◌∙◌, ap, sym, arith, Some}
use Rattle.core_exec.specs.Tasks.{cost, task_at}
use Rattle.core_exec.proofs.Counted.{unmarked_removed}
use Rattle.core_exec.proofs.table.Table.end.Goals as goal

-- the task was taken out
pub returns-clause-unmarked : goal.returns-clause-unmarked
returns-clause-unmarked g c =
    let found : task_at c.args.self.now c.args.t ≡ Some c.in-Some.task = sym c.remove.ensures.value ∙ c.in-Some.is in
    let counted = unmarked_removed c.args.self.now.map c.remove.new.self c.args.t _ found c.remove.ensures.entries in
    let costs : cost (task_at c.args.self.now c.args.t) ≡ cost (Some c.in-Some.task) = ap cost found in
    omega (arith, counted, costs)
