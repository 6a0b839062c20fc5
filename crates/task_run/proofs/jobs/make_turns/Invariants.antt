use Rattle.std.proofs.Common.{ℕ, ◌≡◌, ◌≤◌, ◌+◌, length, List}
use Rattle.core_exec.specs.Exec.{IsSound, MeetAims, Stands, left_of, moment_of, outputs_of, spawned_of, turns_of}
use Rattle.pipe_job.specs.PipeJob.{ApartPipes, FitsPipe, IsAim, aim_of, cancels_of, polls_of}
use Rattle.task_run.proofs.jobs.make_turns.Given as goal

-- Each turn counts as one at most, and loses no task.
abbrev pub invariant-loop : goal.invariant-loop
invariant-loop l = record {
  stands : Stands polls_of cancels_of l.exec;
  sound : IsSound FitsPipe ApartPipes l.exec;
  turns : turns_of l.exec ≤ l.counter;
  moment : moment_of l.exec ≡ 0;
  spawned : spawned_of l.exec ≡ spawned_of l.initial.exec;
  all : length (outputs_of l.exec) + left_of l.exec ≡ length (outputs_of l.initial.exec) + left_of l.initial.exec;
  aims : (aims : ℕ → List ℕ) → MeetAims aim_of IsAim aims l.initial.exec → MeetAims aim_of IsAim aims l.exec;
}
