use Rattle.std.proofs.Common.{◌≡◌, ◌≤◌, ◌++◌, IsTrue, length}
use Rattle.copy_run.specs.Pieces.{delivered_by}
use Rattle.copy_run.proofs.copying.send_held.Given as goal

-- What was delivered and what is held, joined, are as they were, and the sink's faults have not fallen.
abbrev pub invariant-loop-next : goal.invariant-loop-next
invariant-loop-next g l = record {
  joined : IsTrue g.K.ByteSink.tells → delivered_by (g.K.ByteSink.taken l.writer.writer.inner.sink) l.writer.writer ++ l.copy.held
      ≡ delivered_by (g.K.ByteSink.taken l.initial.writer.writer.inner.sink) l.initial.writer.writer ++ l.initial.copy.held;
  order : g.K.ByteSink.faults l.initial.writer.writer.inner.sink ≤ g.K.ByteSink.faults l.writer.writer.inner.sink;
}

abbrev pub decreases-loop-next : goal.decreases-loop-next
decreases-loop-next g l = length l.copy.held
