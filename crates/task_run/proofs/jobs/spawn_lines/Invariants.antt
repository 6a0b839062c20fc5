use Rattle.std.proofs.Common.{◌≡◌, ◌+◌, length}
use Rattle.core_exec.specs.Exec.{IsSound, MeetAims, Stands, left_of, moment_of, outputs_of, spawned_of, turns_of}
use Rattle.pipe_job.specs.PipeJob.{ApartPipes, FitsPipe, IsAim, aim_of, cancels_of, polls_of}
use Rattle.task_run.specs.Tasks.{bytes_at}
use Rattle.task_run.proofs.Results.{Reads}
use Rattle.task_run.proofs.jobs.spawn_lines.Given as goal

-- A job was spawned for each line so far, of its bytes.
abbrev pub invariant-loop-rest : goal.invariant-loop-rest
invariant-loop-rest l = record {
  reads : Reads l.text l.rest l.number;
  stands : Stands polls_of cancels_of l.exec;
  sound : IsSound FitsPipe ApartPipes l.exec;
  spawned : spawned_of l.exec ≡ l.number;
  all : length (outputs_of l.exec) + left_of l.exec ≡ spawned_of l.exec;
  kept : (turns_of l.exec ≡ turns_of l.initial.exec) × (moment_of l.exec ≡ moment_of l.initial.exec);
  aims : MeetAims aim_of IsAim (bytes_at l.text) l.exec;
}

abbrev pub decreases-loop-rest : goal.decreases-loop-rest
decreases-loop-rest l = length l.rest
