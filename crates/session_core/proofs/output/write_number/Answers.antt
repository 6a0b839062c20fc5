use Rattle.std.proofs.Common.{◌∷◌, [], append_assoc, subst, sym}
use Rattle.std.specs.Prelude.{decimal, Err}
use Rattle.session_core.specs.Top.{ended}
use Rattle.session_core.specs.Writes.{WritesAll}
use Rattle.session_core.proofs.Writing.{writes-then, writes-cut}
use Rattle.session_core.proofs.output.write_number.Goals as goal

pub returns-in-Ok-clause-writes : goal.returns-in-Ok-clause-writes
returns-in-Ok-clause-writes g c =
    subst (λ xs. WritesAll g.K.ByteSink.tells xs (g.K.ByteSink.taken c.args.sink.now) (g.K.ByteSink.taken c.write_digits.new.sink)
    (g.K.ByteSink.faults c.args.sink.now) (g.K.ByteSink.faults c.write_digits.new.sink) c.write_digits.result)
    (sym (append_assoc c.args.words.now (decimal c.args.number) (10 ∷ [])))
    (writes-then g.K.ByteSink.tells c.args.words.now (ended (decimal c.args.number)) _ (g.K.ByteSink.taken c.write_all.new.sink) _ _
    (g.K.ByteSink.faults c.write_all.new.sink) _ c.write_digits.result c.in-Ok.ensures c.write_digits.ensures.writes)

pub returns-in-Err-clause-writes : goal.returns-in-Err-clause-writes
returns-in-Err-clause-writes g c =
    subst (λ xs. WritesAll g.K.ByteSink.tells xs (g.K.ByteSink.taken c.args.sink.now) (g.K.ByteSink.taken c.write_all.new.sink)
    (g.K.ByteSink.faults c.args.sink.now) (g.K.ByteSink.faults c.write_all.new.sink) (Err c.in-Err.failed))
    (sym (append_assoc c.args.words.now (decimal c.args.number) (10 ∷ [])))
    (writes-cut g.K.ByteSink.tells c.args.words.now (ended (decimal c.args.number)) _ _ _ _ c.in-Err.failed c.in-Err.ensures)
