use Rattle.std.proofs.Common.{length}
use Rattle.copy_run.proofs.Outlets.{KeptBy}
use Rattle.copy_run.proofs.outlet.Outlet.push_all.Given as goal

-- Bytes left the buffer, and else nothing has changed but the count of faults.
abbrev pub invariant-loop-self : goal.invariant-loop-self
invariant-loop-self g l =
    KeptBy g.K.ByteSink.tells g.K.ByteSink.taken g.K.ByteSink.faults l.initial.self.writer l.self.writer

abbrev pub decreases-loop-self : goal.decreases-loop-self
decreases-loop-self g l = length l.self.writer.held
