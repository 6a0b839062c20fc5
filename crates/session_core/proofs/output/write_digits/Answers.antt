use Rattle.std.proofs.Common.{◌∷◌, [], ◌∙◌, subst}
use Rattle.std.specs.Prelude.{decimal, Err}
use Rattle.session_core.specs.Writes.{Wrote, WritesAll}
use Rattle.session_core.proofs.Writing.{writes-then, writes-cut}
use Rattle.session_core.proofs.output.write_digits.Goals as goal

pub returns-in-Ok-clause-writes : goal.returns-in-Ok-clause-writes
returns-in-Ok-clause-writes g c =
    writes-then g.K.ByteSink.tells (decimal c.args.number) (10 ∷ []) _ (g.K.ByteSink.taken c.write_all.new.sink) _ _
    (g.K.ByteSink.faults c.write_all.new.sink) _ c.write_last.result
    (subst (λ xs. Wrote g.K.ByteSink.tells xs (g.K.ByteSink.taken c.args.sink.now) (g.K.ByteSink.taken c.write_all.new.sink)
    (g.K.ByteSink.faults c.args.sink.now) (g.K.ByteSink.faults c.write_all.new.sink))
    (c.as_bytes.ensures.value ∙ c.format.ensures.text) c.in-Ok.ensures)
    c.write_last.ensures.writes

pub returns-in-Err-clause-writes : goal.returns-in-Err-clause-writes
returns-in-Err-clause-writes g c =
    writes-cut g.K.ByteSink.tells (decimal c.args.number) (10 ∷ []) _ _ _ _ c.in-Err.failed
    (subst (λ xs. WritesAll g.K.ByteSink.tells xs (g.K.ByteSink.taken c.args.sink.now) (g.K.ByteSink.taken c.write_all.new.sink)
    (g.K.ByteSink.faults c.args.sink.now) (g.K.ByteSink.faults c.write_all.new.sink) (Err c.in-Err.failed))
    (c.as_bytes.ensures.value ∙ c.format.ensures.text) c.in-Err.ensures)
