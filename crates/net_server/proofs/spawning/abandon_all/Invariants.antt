use Rattle.core_exec.specs.Exec.{IsSound, Stands, left_of}
use Rattle.ready_driver.specs.LegacyState.{ops_in}
use Rattle.net_server.specs.NetJob.{ApartJobs, FitsJob, cancels_of, polls_of}
use Rattle.net_server.proofs.spawning.abandon_all.Given as goal

-- What each call keeps.
abbrev pub invariant-loop : goal.invariant-loop
invariant-loop g l = record {
  stands : Stands polls_of cancels_of l.exec;
  sound : IsSound (FitsJob ops_in) ApartJobs l.exec;
}

-- A task leaves in each turn.
abbrev pub decreases-loop : goal.decreases-loop
decreases-loop g l = left_of l.exec
