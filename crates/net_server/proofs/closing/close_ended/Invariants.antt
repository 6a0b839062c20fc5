use Rattle.std.proofs.Common.{◌≡◌}
use Rattle.core_exec.specs.Exec.{IsSound, Stands, left_of}
use Rattle.ready_driver.specs.LegacyState.{ops_in}
use Rattle.net_server.specs.Closing.{table_of}
use Rattle.net_server.specs.NetJob.{ApartJobs, FitsJob, cancels_of, polls_of}
use Rattle.net_server.proofs.Closes.{ClosedBelow}
use Rattle.net_server.proofs.closing.close_ended.Given as goal

-- The handles of those before this one are closed.
abbrev pub invariant-loop-k : goal.invariant-loop-k
invariant-loop-k g l = record {
  stands : Stands polls_of cancels_of l.exec;
  sound : IsSound (FitsJob ops_in) ApartJobs l.exec;
  left : left_of l.exec ≡ left_of l.initial.exec;
  below : ClosedBelow (table_of l.exec.driver.driver) l.ended l.k;
}
