use Rattle.std.proofs.Common.{length, ap, arith, length-append}
use Rattle.ready_driver.specs.Turns.{woken_by}
use Rattle.ready_driver.proofs.registry.turn.treat_one.Goals as goal

pub returns-clause-len : goal.returns-clause-len
returns-clause-len c =
    let all = ap length c.report_into.ensures.tasks in
    let more = length-append c.args.woken.now.items (woken_by c.args.records.now.records c.args.report) in
    omega (arith, all, more)
