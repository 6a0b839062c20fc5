use Rattle.std.proofs.Common.{◌+◌, ◌≤◌, length}
use Rattle.frame_run.proofs.Sendings.{SendingText}
use Rattle.frame_run.proofs.framing.send_lines.Given as goal

-- The messages of the lines so far were written or wait, and there were no more lines than bytes.
abbrev pub invariant-loop-rest : goal.invariant-loop-rest
invariant-loop-rest g l = (l.number + length l.rest ≤ length l.text)
    × SendingText g.K.ByteSink.tells g.P.SinkPlaces.text l.rest g.P.SinkPlaces.taken (g.K.ByteSink.taken l.writer.inner.sink.sink.now)
    l.writer.held l.number l.writer.inner.sink.failures

abbrev pub decreases-loop-rest : goal.decreases-loop-rest
decreases-loop-rest g l = length l.rest
