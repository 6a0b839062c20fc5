use Rattle.core_exec.specs.Exec.{IsSound, Stands}
use Rattle.op_job.specs.OpJob.{ApartOps, FitsOps, cancels_of, polls_of}
use Rattle.job_tests.proofs.tests.chains.turns.Given as goal
use Rattle.ready_driver.specs.LegacyState.{ops_in}

-- What each turn keeps.
abbrev pub invariant-loop-now : goal.invariant-loop-now
invariant-loop-now g l = record {
  stands : Stands polls_of cancels_of l.exec;
  sound : IsSound (FitsOps ops_in) ApartOps l.exec;
}
