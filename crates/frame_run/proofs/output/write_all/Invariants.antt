use Rattle.std.proofs.Common.{◌≡◌, ◌≤◌, length, IsTrue}
use Rattle.frame_run.specs.Writes.{Sent}
use Rattle.frame_run.proofs.output.write_all.Given as goal

abbrev pub invariant-loop-rest : goal.invariant-loop-rest
invariant-loop-rest g l = record {
  sent : IsTrue g.K.ByteSink.tells → Sent l.bytes l.rest (g.K.ByteSink.taken l.initial.sink) (g.K.ByteSink.taken l.sink);
  calm : IsTrue g.K.ByteSink.tells → g.K.ByteSink.faults l.sink ≡ g.K.ByteSink.faults l.initial.sink;
  faults : g.K.ByteSink.faults l.initial.sink ≤ g.K.ByteSink.faults l.sink;
}

abbrev pub decreases-loop-rest : goal.decreases-loop-rest
decreases-loop-rest g l = length l.rest
