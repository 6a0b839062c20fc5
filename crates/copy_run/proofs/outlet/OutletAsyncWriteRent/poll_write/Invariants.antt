use Rattle.std.proofs.Common.{◌≡◌, length}
use Rattle.copy_run.proofs.Outlets.{KeptBy}
use Rattle.copy_run.proofs.outlet.OutletAsyncWriteRent.poll_write.Given as goal

-- Bytes left the buffer, and else nothing has changed but the count of faults.
abbrev pub invariant-loop-back : goal.invariant-loop-back
invariant-loop-back g l =
    KeptBy g.K.ByteSink.tells g.K.ByteSink.taken g.K.ByteSink.faults l.initial.self.writer l.self.writer
    × (l.buf ≡ l.initial.buf)

abbrev pub decreases-loop-back : goal.decreases-loop-back
decreases-loop-back g l = length l.self.writer.held
