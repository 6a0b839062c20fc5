-- What a job waits for in the driver, which names its task once it can go on. Cited by `step`, `PipeJob` and the turns.
use Rattle.std.specs.Prelude.{ℕ, ◌≡◌, ◌⊎◌, Bool, true, IsTrue, Some}
use Rattle.std.specs.FinMap as map
use Rattle.std.specs.List.{Contains}
use Rattle.rent_buf.specs.Rent.{Rented}
use Rattle.core_exec.specs.declared.job.JobStep.{JobStep}
use Rattle.core_exec.specs.declared.job.JobStep.TheVariants as job
use Rattle.driver_core.specs.declared.op.Op.{Op}
use Rattle.driver_core.specs.Op.{number_of}
use Rattle.op_job.specs.Met.{IsWaiting}
use Rattle.ready_driver.specs.declared.ready.Direction.{Direction}
use Rattle.ready_driver.specs.Awaits.{slot_awaits}
use Rattle.ready_driver.specs.LegacyState.{LegacyState, ops_in}
use Rattle.pipe_job.specs.Course.{Coursed}
use Rattle.pipe_job.specs.Waits.{ApartWaits, FitsWait}
use Rattle.pipe_job.specs.declared.pipe_job.PipeJob.{PipeJob}
use Rattle.pipe_job.specs.declared.step.Wait.{Wait}
use Rattle.pipe_job.specs.declared.step.Wait.TheVariants.{Room, Waiting}
use Rattle.pipe_job.specs.declared.step.Step.{Step}
use Rattle.pipe_job.specs.declared.step.Step.TheVariants.{Again, Pending, OutOfMemory, Ended}

-- An operation is listed with a task: it awaits a direction of a handle, it is in the handle's list with that direction and that task, and
-- no bit of the handle meets the direction.
pub record IsListed {I : Type 0} (driver : LegacyState I Rented) (h : ℕ) (op : Op) (task : ℕ) : Type 0 where
  pub direction : Direction
  pub awaits : slot_awaits (map.get driver.slots.values op.key) ≡ Some (h, direction)
  pub waits : IsWaiting driver.handling.records h (number_of op) task direction

-- A pipe was a file of the object as a call on it would have blocked. Nothing is reported of a file, so no turn names the task. Over a
-- world in memory that never is so, since no call on a file blocks there.
pub record IsUnreported {I : Type 0} (files : I → ℕ → Bool) (memory : Bool) (pipe : ℕ) : Type 0 where
  pub before : I
  pub is : files before pipe ≡ true
  pub never : IsTrue memory → ⊥

-- Of jobs over a driver whose object has these files.
module _ {I : Type 0} (files : I → ℕ → Bool) (memory : Bool) where
  -- The operation of a job that is pending is listed with its task, for its pipe, if that isn't a file of which nothing is reported.
  abbrev pub AwaitsPipe : LegacyState I Rented → ℕ → ℕ → Wait → Type 0
  AwaitsPipe driver pipe task (Room room) = ⊥
  AwaitsPipe driver pipe task (Waiting op) = IsListed driver pipe op task ⊎ IsUnreported files memory pipe

  -- The same of a step, if it waits.
  abbrev pub AwaitsBy : LegacyState I Rented → ℕ → ℕ → Step → Type 0
  AwaitsBy driver pipe task (Pending wait) = AwaitsPipe driver pipe task wait
  AwaitsBy driver pipe task (Again wait) = Unit {0}
  AwaitsBy driver pipe task (OutOfMemory wait) = Unit {0}
  AwaitsBy driver pipe task (Ended end) = Unit {0}

  -- The same of a poll of a job.
  abbrev pub AwaitsJob : {O : Type 0} → LegacyState I Rented → ℕ → JobStep PipeJob O → Type 0
  AwaitsJob driver task (job.Done out) = Unit {0}
  AwaitsJob driver task (job.Pending next) = AwaitsPipe driver next.course.pipe task next.wait
  AwaitsJob driver task (job.OutOfMemory next) = Unit {0}

  -- A job waits: its operation is listed with its task, for its pipe; or the next turn of the driver is to name the task; or its pipe is a
  -- file of which nothing is reported.
  abbrev pub WaitsWait : LegacyState I Rented → ℕ → ℕ → Wait → Type 0
  WaitsWait driver pipe task (Room room) = ⊥
  WaitsWait driver pipe task (Waiting op) =
      IsListed driver pipe op task ⊎ (Contains driver.asked task ⊎ IsUnreported files memory pipe)

  abbrev pub WaitsPipe : LegacyState I Rented → ℕ → PipeJob → Type 0
  WaitsPipe driver task job = WaitsWait driver job.course.pipe task job.wait

  -- A call leaves each other job waiting, if it doesn't wait for the same operation as this one.
  pub record KeepsWaiting (old new : LegacyState I Rented) (wait : Wait) : Type 0 where
    pub keep : (course : Coursed) (cancels task : ℕ) (other : Wait) → FitsWait (ops_in old) course cancels other → ApartWaits wait other
        → WaitsWait old course.pipe task other → WaitsWait new course.pipe task other

-- A step that submits doesn't wait.
abbrev pub AwaitsNone : Step → Type 0
AwaitsNone (Pending wait) = ⊥
AwaitsNone (Again wait) = Unit {0}
AwaitsNone (OutOfMemory wait) = Unit {0}
AwaitsNone (Ended end) = Unit {0}
