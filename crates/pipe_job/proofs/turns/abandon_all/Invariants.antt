use Rattle.core_exec.specs.Exec.{IsSound, Stands, left_of}
use Rattle.pipe_job.specs.PipeJob.{ApartPipes, FitsPipe, cancels_of, polls_of}
use Rattle.pipe_job.proofs.turns.abandon_all.Given as goal

-- What each call keeps.
abbrev pub invariant-loop : goal.invariant-loop
invariant-loop g l = record {
  stands : Stands polls_of cancels_of l.exec;
  sound : IsSound FitsPipe ApartPipes l.exec;
}

-- A task leaves in each turn.
abbrev pub decreases-loop : goal.decreases-loop
decreases-loop g l = left_of l.exec
