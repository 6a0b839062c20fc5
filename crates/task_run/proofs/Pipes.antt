-- A new pipe and the jobs over others.
use Rattle.std.proofs.Common.{ℕ, Option}
use Rattle.rent_buf.specs.Rent.{Rented}
use Rattle.core_exec.specs.Tasks.{AreSound}
use Rattle.ready_driver.specs.LegacyState.{LegacyState, SameOps, ops_in}
use Rattle.pipe_job.specs.PipeJob.{ApartPipes, FitsPipe}
use Rattle.pipe_job.specs.declared.pipe_job.PipeJob.{PipeJob}
use Rattle.pipe_job.proofs.Frames.{all_fit}

-- Jobs that are sound over a driver are so behind a call that leaves its operations.
pub given_sound : {I : Type 0} (old new : LegacyState I Rented) (jobs : ℕ → Option PipeJob) → SameOps old new
    → AreSound FitsPipe ApartPipes old jobs → AreSound FitsPipe ApartPipes new jobs
given_sound old new jobs same sound = record {
  all_fit = λ t job is. all_fit (ops_in old) (ops_in new) same.slots same.given job.course job.cancels job.wait
      (sound.all_fit t job is);
  all_apart = sound.all_apart;
}
