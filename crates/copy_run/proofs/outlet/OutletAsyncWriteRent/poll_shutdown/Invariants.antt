use Rattle.std.proofs.Common.{length}
use Rattle.copy_run.proofs.Outlets.{KeptBy}
use Rattle.copy_run.proofs.outlet.OutletAsyncWriteRent.poll_shutdown.Given as goal

-- Bytes left the buffer, and else nothing has changed but the count of faults.
abbrev pub invariant-loop-outcome : goal.invariant-loop-outcome
invariant-loop-outcome g l =
    KeptBy g.K.ByteSink.tells g.K.ByteSink.taken g.K.ByteSink.faults l.initial.self.writer l.self.writer

abbrev pub decreases-loop-outcome : goal.decreases-loop-outcome
decreases-loop-outcome g l = length l.self.writer.held
