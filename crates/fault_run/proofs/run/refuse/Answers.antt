use Rattle.std.proofs.Common.{◌+◌, ◌∙◌, Err, refl, sym, subst, arith}
use Rattle.fault_run.specs.Running.{StopsAtLine}
use Rattle.fault_run.specs.Texts.{bad_line_text}
use Rattle.fault_run.specs.Writes.{WritesText}
use Rattle.fault_run.specs.declared.run.Ending.TheVariants.{BadLine}
use Rattle.fault_run.proofs.Running.{stops-short, stops-wrong, stops-wrong_unwritten}
use Rattle.fault_run.proofs.run.refuse.Goals as goal

pub returns-in_default : goal.returns-in_default
returns-in_default g c = λ session.
    stops-short g.K.ByteSink.tells session c.args.ran c.args.text.now _ _ _ _ (g.K.ByteSink.is_flushed c.args.sink.now)
    (record { order = omega arith; nothing = λ told. refl; calm = λ told. refl })

pub returns-in-Ok-write_bad_line : goal.returns-in-Ok-write_bad_line
returns-in-Ok-write_bad_line g c = λ session.
    subst (λ text. StopsAtLine g.K.ByteSink.tells session c.args.ran c.args.text.now (g.K.ByteSink.taken c.args.sink.now)
    (g.K.ByteSink.taken c.write_bad_line.new.sink) (g.K.ByteSink.faults c.args.sink.now) (g.K.ByteSink.faults c.write_bad_line.new.sink)
    (g.K.ByteSink.is_flushed c.write_bad_line.new.sink) (BadLine (c.args.ran + 1) text))
    (sym (c.from_vec.ensures ∙ c.in-Ok.ensures.items))
    (stops-wrong g.K.ByteSink.tells session c.args.ran c.args.text.now _ _ _ _ _ c.requires.wrong c.in-Ok-write_bad_line.ensures.writes
    c.in-Ok-write_bad_line.ensures.flushed)

pub returns-in-Err-Fault : goal.returns-in-Err-Fault
returns-in-Err-Fault g c = λ session.
    stops-wrong_unwritten g.K.ByteSink.tells session c.args.ran c.args.text.now _ _ _ _ (g.K.ByteSink.is_flushed c.write_bad_line.new.sink)
    c.requires.wrong
    (subst (λ why. WritesText g.K.ByteSink.tells (bad_line_text (c.args.ran + 1)) (g.K.ByteSink.taken c.args.sink.now)
    (g.K.ByteSink.taken c.write_bad_line.new.sink) (g.K.ByteSink.faults c.args.sink.now) (g.K.ByteSink.faults c.write_bad_line.new.sink)
    (Err why)) c.in-Err-Fault.field-0-is c.in-Err-Fault.ensures.writes)

pub returns : goal.returns
returns g c = λ session.
    stops-short g.K.ByteSink.tells session c.args.ran c.args.text.now _ _ _ _ (g.K.ByteSink.is_flushed c.write_bad_line.new.sink)
    (subst (λ why. WritesText g.K.ByteSink.tells (bad_line_text (c.args.ran + 1)) (g.K.ByteSink.taken c.args.sink.now)
    (g.K.ByteSink.taken c.write_bad_line.new.sink) (g.K.ByteSink.faults c.args.sink.now) (g.K.ByteSink.faults c.write_bad_line.new.sink)
    (Err why)) c.in-Err-OutOfMemory.field-0-is c.in-Err-OutOfMemory.ensures.writes)
