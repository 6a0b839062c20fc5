use Rattle.job_tests.specs.declared.tests.deadlines.Steps.{Steps}
use Rattle.core_exec.specs.Exec.{Stands, left_of}
use Rattle.job_tests.proofs.tests.deadlines.take_all.Given as goal

-- What each call keeps.
abbrev pub invariant-loop-task : goal.invariant-loop-task
invariant-loop-task l = Stands (λ (job : Steps). job.polls) (λ job. job.cancels) l.exec

-- A task leaves in each turn.
abbrev pub decreases-loop-task : goal.decreases-loop-task
decreases-loop-task l = left_of l.exec
