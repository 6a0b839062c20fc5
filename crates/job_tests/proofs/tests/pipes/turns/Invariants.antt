use Rattle.core_exec.specs.Exec.{IsSound, Stands}
use Rattle.pipe_job.specs.PipeJob.{ApartPipes, FitsPipe, cancels_of, polls_of}
use Rattle.job_tests.proofs.tests.pipes.turns.Given as goal

-- What each turn keeps.
abbrev pub invariant-loop-now : goal.invariant-loop-now
invariant-loop-now l = record {
  stands : Stands polls_of cancels_of l.exec;
  sound : IsSound FitsPipe ApartPipes l.exec;
}
