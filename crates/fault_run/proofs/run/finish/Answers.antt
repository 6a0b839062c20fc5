use Rattle.std.proofs.Common.{◌≡◌, ◌<◌, length, arith}
use Rattle.std.proofs.lemmas.Bool.Decides.{nat_tests}
use Rattle.fault_run.proofs.Cutting.{none-left}
use Rattle.fault_run.proofs.Running.{last-none, last-one, last-stop}
use Rattle.fault_run.proofs.run.finish.Goals as goal

pub returns-then-is_empty : goal.returns-then-is_empty
returns-then-is_empty g c =
    let none : length c.args.text.now ≡ 0 = grind (arith, nat_tests, c.if-is_empty.ensures) in
    last-none g.K.ByteSink.tells c.args.session.now c.args.ran c.args.text.now _ _ _ _ _ c.flush.result
    (none-left c.args.text.now none) c.flush.ensures

pub returns-in-Ok : goal.returns-in-Ok
returns-in-Ok g c =
    let some : 0 < length c.args.text.now = grind (arith, nat_tests, c.if-is_empty.ensures) in
    last-one g.K.ByteSink.tells c.args.session.now c.run_line.new.session c.args.ran c.args.text.now _ _ _ _
    (g.K.ByteSink.faults c.run_line.new.sink) _ _ c.flush-in-Ok.result c.requires.one some c.in-Ok.ensures.ok c.in-Ok.ensures.order
    c.flush-in-Ok.ensures

pub returns-in-Err : goal.returns-in-Err
returns-in-Err g c =
    let some : 0 < length c.args.text.now = grind (arith, nat_tests, c.if-is_empty.ensures) in
    last-stop g.K.ByteSink.tells c.args.session.now c.args.ran c.args.text.now _ _ _ _ _ c.in-Err.ending c.requires.one some
    c.in-Err.ensures.why
