-- Why a poll of a job ends with a fault, and when it waits. Cited by `step` and `PipeJob`.
use Rattle.std.specs.Prelude.{ℕ, ◌≡◌, ◌≢◌, ◌≤◌, ◌⊎◌, Bool, true, false, List, [], ◌∷◌, IsTrue, Result, Ok, Err, slice_get}
use Rattle.std.specs.FinMap as map
use Rattle.rent_buf.specs.Counts.{Rose}
use Rattle.rent_buf.specs.Rent.{Rented}
use Rattle.rent_buf.specs.declared.fault.IoFault.{IoFault}
use Rattle.rent_buf.specs.declared.fault.IoFault.TheVariants.{Os, UnexpectedEof, WriteZero, InvalidData, ReadFault, WriteFault}
use Rattle.rent_buf.specs.declared.fault.IoFault.TheVariants.{OutOfMemory as NoMemory}
use Rattle.op_slots.specs.declared.slab.TheConstants.{MAX_LIVE}
use Rattle.machine.specs.declared.request.TheConstants.{CANCELED}
use Rattle.machine.specs.declared.world.HandleState.{HandleState}
use Rattle.machine.specs.Lists.{passes}
use Rattle.machine.specs.Outcome.{is_spent}
use Rattle.driver_core.specs.declared.operations.TheConstants.{MOST_GIVEN}
use Rattle.ready_driver.specs.Awaits.{IsSlotUnmet}
use Rattle.ready_driver.specs.Io.{IoView}
use Rattle.ready_driver.specs.LegacyState.{LegacyState, holds_all, live_slots}
use Rattle.pipe_job.specs.declared.step.TheConstants.{AGAIN, NOT_HELD}
use Rattle.pipe_job.specs.declared.step.Wait.{Wait}
use Rattle.pipe_job.specs.declared.step.Wait.TheVariants.{Room, Waiting}
use Rattle.pipe_job.specs.declared.step.Step.{Step}
use Rattle.pipe_job.specs.declared.step.Step.TheVariants.{Again, Pending, OutOfMemory, Ended}

-- The driver takes no further operation: all slots are live, or so many were submitted.
abbrev pub TakesNone : {I : Type 0} → LegacyState I Rented → Type 0
TakesNone driver = (live_slots driver ≡ MAX_LIVE) ⊎ (MOST_GIVEN ≤ driver.given)

-- No more bytes come from a handle: none waits on it, and its end is marked.
abbrev pub HasEnded : List HandleState → ℕ → Type 0
HasEnded world h = passes is_spent (slice_get world h) ≡ true

-- Of a poll of a job over a pipe, whose cancel was asked for so often; whether the bytes that wait on its pipe are its own.
module _ {I : Type 0} (view : I → IoView) (tells : Bool) (pipe cancels : ℕ) (own : Type 0) (old new : LegacyState I Rented) where
  -- The causes of the job's error: a call ended with an error, so that the count of these rose; or the job's cancel was asked for; or the
  -- driver takes no further operation; or the user doesn't hold the pipe.
  abbrev pub OsFor : ℕ → Type 0
  OsFor e =
      Rose (view old.handling.io).fails (view new.handling.io).fails
      ⊎ (((e ≡ CANCELED) × (cancels ≢ 0))
      ⊎ (((e ≡ AGAIN) × TakesNone new) ⊎ ((e ≡ NOT_HELD) × (holds_all new.handling.table (pipe ∷ []) ≡ false))))

  -- The causes of a fault. A refused submission is a `ReadFault`: the object failed, so that its count of faults rose. Where the object
  -- shows its handles, a receive of nothing comes only where the pipe has ended, a send of nothing never, and other bytes only where those
  -- that waited on the pipe weren't the job's own.
  abbrev pub PipeFaultFor : IoFault → Type 0
  PipeFaultFor (Os e) = OsFor e
  PipeFaultFor ReadFault = Rose (view old.handling.io).faults (view new.handling.io).faults
  PipeFaultFor UnexpectedEof = IsTrue tells → HasEnded (view new.handling.io).world pipe
  PipeFaultFor WriteZero = IsTrue tells → ⊥
  PipeFaultFor InvalidData = IsTrue tells → own → ⊥
  PipeFaultFor WriteFault = ⊥
  PipeFaultFor NoMemory = ⊥

  -- The causes of an end, which has one if it is a fault.
  abbrev pub PipeEndsFor : Result Unit IoFault → Type 0
  PipeEndsFor (Ok done) = Unit {0}
  PipeEndsFor (Err fault) = PipeFaultFor fault

  -- The same of a step, if it ends.
  abbrev pub StepEndsFor : Step → Type 0
  StepEndsFor (Ended end) = PipeEndsFor end
  StepEndsFor (Again wait) = Unit {0}
  StepEndsFor (Pending wait) = Unit {0}
  StepEndsFor (OutOfMemory wait) = Unit {0}

-- A job that waits has an operation, which waits for a direction that no bit of its handle meets, or would have blocked, so that the count
-- of these calls rose.
abbrev pub WaitsFor : {I : Type 0} → (I → IoView) → LegacyState I Rented → LegacyState I Rented → Wait → Type 0
WaitsFor view old new (Room room) = ⊥
WaitsFor view old new (Waiting op) =
    IsSlotUnmet new.handling.records (map.get new.slots.values op.key)
    ⊎ Rose (view old.handling.io).blocks (view new.handling.io).blocks

-- The same of a step, if it waits.
abbrev pub WaitsBy : {I : Type 0} → (I → IoView) → LegacyState I Rented → LegacyState I Rented → Step → Type 0
WaitsBy view old new (Pending wait) = WaitsFor view old new wait
WaitsBy view old new (Again wait) = Unit {0}
WaitsBy view old new (OutOfMemory wait) = Unit {0}
WaitsBy view old new (Ended end) = Unit {0}
