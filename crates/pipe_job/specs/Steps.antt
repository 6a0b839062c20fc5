-- What a step of a job's poll does, and what all its steps so far. Cited by `step` and `PipeJob`.
use Rattle.std.specs.Prelude.{ℕ, ◌≡◌, Bool, [], Result, Ok, Err}
use Rattle.rent_buf.specs.Rent.{Rented}
use Rattle.rent_buf.specs.declared.fault.IoFault.{IoFault}
use Rattle.core_exec.specs.declared.job.JobStep.{JobStep}
use Rattle.core_exec.specs.declared.job.JobStep.TheVariants as job
use Rattle.driver_core.specs.declared.op.Done.{Done}
use Rattle.ready_driver.specs.Io.{IoView, IsLater}
use Rattle.ready_driver.specs.LegacyState.{LegacyState, ops_in}
use Rattle.pipe_job.specs.Awaits.{KeepsWaiting}
use Rattle.pipe_job.specs.Causes.{StepEndsFor, WaitsBy}
use Rattle.pipe_job.specs.Course.{BringsOn, Coursed, FailsBy}
use Rattle.pipe_job.specs.Moves.{HasOwn, MovesOn}
use Rattle.pipe_job.specs.Rest.{IsOwnOrNew, LeavesRest}
use Rattle.pipe_job.specs.Waits.{FitsWait, HasNone, IfBack, KeepsApart, StaysApart}
use Rattle.pipe_job.specs.declared.step.Wait.{Wait}
use Rattle.pipe_job.specs.declared.step.Step.{Step}
use Rattle.pipe_job.specs.declared.step.Step.TheVariants.{Again, Pending, OutOfMemory, Ended}

-- A fact of a step that ends without a fault.
abbrev pub IfWhole : Step → Type 0 → Type 0
IfWhole (Again wait) P = Unit {0}
IfWhole (Pending wait) P = Unit {0}
IfWhole (OutOfMemory wait) P = Unit {0}
IfWhole (Ended (Ok whole)) P = P
IfWhole (Ended (Err fault)) P = Unit {0}

-- A fact of a step that doesn't end with a fault.
abbrev pub UnlessFault : Step → Type 0 → Type 0
UnlessFault (Again wait) P = P
UnlessFault (Pending wait) P = P
UnlessFault (OutOfMemory wait) P = P
UnlessFault (Ended (Ok whole)) P = P
UnlessFault (Ended (Err fault)) P = Unit {0}

-- From what a job waited for to a step: it fits the driver if it isn't done; each other job that was apart from it fits still, is apart,
-- and waits still if it waited; no count of the object fell; an end has a cause; it waits only where more can't be done at once; it came as
-- far as what it sent and received; and it left the rest of the driver.
pub record StepsTo {I : Type 0} (files : I → ℕ → Bool) (view : I → IoView) (tells memory : Bool) (was is : Coursed) (cancels : ℕ)
    (old new : LegacyState I Rented) (wait : Wait) (step : Step) : Type 0 where
  pub fits : IfBack step (FitsWait (ops_in new) is cancels)
  pub others : KeepsApart (ops_in old) (ops_in new) wait
  pub apart : IfBack step (StaysApart (ops_in old) wait)
  pub stays : KeepsWaiting files memory old new wait
  pub later : IsLater (view old.handling.io) (view new.handling.io)
  pub ends : StepEndsFor view tells was.pipe cancels (HasOwn (view old.handling.io).world was) old new step
  pub waits : WaitsBy view old new step
  pub moves : UnlessFault step (MovesOn view tells memory was is old new)
  pub rest : LeavesRest old new wait
  pub fresh : IfBack step (IsOwnOrNew old.given wait)

-- A poll that isn't done ends as such a step.
abbrev pub as_step : JobStep Wait (Result Unit IoFault) → Step
as_step (job.Done end) = Ended end
as_step (job.Pending wait) = Pending wait
as_step (job.OutOfMemory wait) = OutOfMemory wait

-- The step that follows an operation that ended: there is memory for the next, and the job came further, or it failed for what this one
-- ended with.
abbrev pub StepFor : Coursed → Coursed → Done Rented → Step → Type 0
StepFor was is done (Again wait) = HasNone wait × BringsOn was is done.outcome done.request
StepFor was is done (Pending wait) = ⊥
StepFor was is done (OutOfMemory wait) = ⊥
StepFor was is done (Ended (Ok whole)) = ⊥
StepFor was is done (Ended (Err fault)) = FailsBy was done.outcome done.request fault

-- A job that has no bytes and no operation ends.
abbrev pub EndsNone : Coursed → Wait → Step → Type 0
EndsNone c wait step = HasNone wait → c.bytes ≡ [] → step ≡ Ended (Ok tt)
