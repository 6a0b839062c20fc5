use Rattle.std.proofs.Common.{◌≡◌, ◌≤◌, length, IsTrue}
use Rattle.fault_run.specs.Writes.{Sent}
use Rattle.fault_run.proofs.output.write_all.Given as goal

-- So much was sent that the rest is left, and no fault was counted.
abbrev pub invariant-loop-rest : goal.invariant-loop-rest
invariant-loop-rest g l = record {
  sent : IsTrue g.K.ByteSink.tells → Sent l.bytes l.rest (g.K.ByteSink.taken l.initial.sink) (g.K.ByteSink.taken l.sink);
  calm : IsTrue g.K.ByteSink.tells → g.K.ByteSink.faults l.sink ≡ g.K.ByteSink.faults l.initial.sink;
  faults : g.K.ByteSink.faults l.initial.sink ≤ g.K.ByteSink.faults l.sink;
}

abbrev pub decreases-loop-rest : goal.decreases-loop-rest
decreases-loop-rest g l = length l.rest
