use Rattle.job_tests.specs.declared.tests.deadlines.Steps.{Steps}
use Rattle.core_exec.specs.Tasks.{AreSound}
use Rattle.core_exec.specs.Exec.{Stands, jobs_of}
use Rattle.job_tests.proofs.tests.deadlines.turn_all.Given as goal

-- What each call keeps.
abbrev pub invariant-loop-k : goal.invariant-loop-k
invariant-loop-k l = record {
  stands : Stands (λ (job : Steps). job.polls) (λ job. job.cancels) l.exec;
  sound : AreSound (λ driver task (job : Steps). Unit {0}) (λ one other. Unit {0}) l.exec.driver (jobs_of l.exec);
}
