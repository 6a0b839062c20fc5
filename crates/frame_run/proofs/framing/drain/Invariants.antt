use Rattle.frame_run.proofs.Sendings.{DrainingText}
use Rattle.frame_run.proofs.framing.drain.Given as goal

-- What was written and what is buffered stay the same, joined, and the sink didn't fail.
abbrev pub invariant-loop : goal.invariant-loop
invariant-loop g l = ((goal.iterator-loop g).can_next l.iterator' × (goal.iterator-loop g).is_finite l.iterator')
    × DrainingText g.K.ByteSink.tells l.initial.writer.held (g.K.ByteSink.taken l.initial.writer.inner.sink.sink.now)
    (g.K.ByteSink.taken l.writer.inner.sink.sink.now) l.writer.held l.writer.inner.sink.failures
