use Rattle.std.proofs.Common.{Err, refl, subst, arith}
use Rattle.std.specs.Prelude.{MatchOption}
use Rattle.fault_run.specs.Lines.{Says, SaysNothing}
use Rattle.fault_run.specs.Texts.{answer_text, ended}
use Rattle.fault_run.specs.Writes.{WritesText}
use Rattle.fault_run.proofs.Running.{answers-line, stops-short, stops-unwritten}
use Rattle.fault_run.proofs.run.run_line.Goals as goal

pub returns-in-Ok-None-clause-why : goal.returns-in-Ok-None-clause-why
returns-in-Ok-None-clause-why g c = c.refuse.ensures c.args.session.now

pub returns-in-Ok-write_line-clause-ok : goal.returns-in-Ok-write_line-clause-ok
returns-in-Ok-write_line-clause-ok g c =
    answers-line g.K.ByteSink.tells c.args.session.now c.args.ran c.args.text.now _ c.step.new.self _ c.in-Ok-Some.line c.in-Ok.answer _ _
    (subst (λ line. MatchOption line (SaysNothing c.args.text.now) (Says c.args.text.now)) c.in-Ok-Some.field-0-is c.in-Ok-Some.ensures)
    c.in-Ok.ensures c.in-Ok-write_line.ensures.writes

pub returns-in-Err-Fault-clause-why : goal.returns-in-Err-Fault-clause-why
returns-in-Err-Fault-clause-why g c =
    stops-unwritten g.K.ByteSink.tells c.args.session.now c.args.ran c.args.text.now _ _ c.step.new.self _ _
    (g.K.ByteSink.is_flushed c.write_line.new.sink) c.in-Ok-Some.line c.in-Ok.answer
    (subst (λ line. MatchOption line (SaysNothing c.args.text.now) (Says c.args.text.now)) c.in-Ok-Some.field-0-is c.in-Ok-Some.ensures)
    c.in-Ok.ensures
    (subst (λ why. WritesText g.K.ByteSink.tells (ended (answer_text c.in-Ok.answer)) (g.K.ByteSink.taken c.args.sink.now)
    (g.K.ByteSink.taken c.write_line.new.sink) (g.K.ByteSink.faults c.args.sink.now) (g.K.ByteSink.faults c.write_line.new.sink)
    (Err why)) c.in-Err-Fault.field-0-is c.in-Err-Fault.ensures.writes)

pub returns-in-Err-clause-why : goal.returns-in-Err-clause-why
returns-in-Err-clause-why g c =
    stops-short g.K.ByteSink.tells c.args.session.now c.args.ran c.args.text.now _ _ _ _ (g.K.ByteSink.is_flushed c.args.sink.now)
    (record { order = omega arith; nothing = λ told. refl; calm = λ told. refl })

pub returns-in_default-clause-why : goal.returns-in_default-clause-why
returns-in_default-clause-why g c =
    stops-short g.K.ByteSink.tells c.args.session.now c.args.ran c.args.text.now _ _ _ _ (g.K.ByteSink.is_flushed c.args.sink.now)
    (record { order = omega arith; nothing = λ told. refl; calm = λ told. refl })

pub returns-in-Err-OutOfMemory-clause-why : goal.returns-in-Err-OutOfMemory-clause-why
returns-in-Err-OutOfMemory-clause-why g c =
    stops-short g.K.ByteSink.tells c.args.session.now c.args.ran c.args.text.now _ _ _ _ (g.K.ByteSink.is_flushed c.write_line.new.sink)
    (subst (λ why. WritesText g.K.ByteSink.tells (ended (answer_text c.in-Ok.answer)) (g.K.ByteSink.taken c.args.sink.now)
    (g.K.ByteSink.taken c.write_line.new.sink) (g.K.ByteSink.faults c.args.sink.now) (g.K.ByteSink.faults c.write_line.new.sink)
    (Err why)) c.in-Err-OutOfMemory.field-0-is c.in-Err-OutOfMemory.ensures.writes)
