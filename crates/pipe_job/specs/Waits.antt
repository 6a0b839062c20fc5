-- What a job waits for, and the driver that holds it. Cited by `step`.
use Rattle.std.specs.Prelude.{ℕ, suc, ◌≡◌, ◌≢◌, ◌<◌, ◌+◌, Option, Some, None}
use Rattle.std.specs.FinMap as map
use Rattle.std.proofs.Common.{sym}
use Rattle.rent_buf.specs.Parts.{Parts}
use Rattle.rent_buf.specs.Rent.{Rented, buffer_of_rent}
use Rattle.machine.specs.declared.request.Request.{Request}
use Rattle.machine.specs.declared.request.TheConstants.{CANCELED}
use Rattle.machine.specs.declared.request.Outcome.{Outcome}
use Rattle.machine.specs.declared.request.Outcome.TheVariants.{Fail}
use Rattle.machine.specs.Request.{plain_request}
use Rattle.driver_core.specs.declared.slot.Slot.{Slot}
use Rattle.driver_core.specs.Op.{Holds, number_of}
use Rattle.driver_core.specs.Ops.{Ops}
use Rattle.ready_driver.specs.Calling.{request_in}
use Rattle.ready_driver.specs.Named.{IsCompleted}
use Rattle.pipe_job.specs.Course.{Coursed, IsNext, left_of}
use Rattle.pipe_job.specs.declared.step.Wait.{Wait}
use Rattle.pipe_job.specs.declared.step.Wait.TheVariants.{Room, Waiting}
use Rattle.pipe_job.specs.declared.step.Step.{Step}
use Rattle.pipe_job.specs.declared.step.Step.TheVariants.{Again, Pending, OutOfMemory, Ended}

-- The request that was looked up is a job's next one.
abbrev pub NextIf : Coursed → Option (Request Rented Parts) → Type 0
NextIf course None = ⊥
NextIf course (Some request) = IsNext course (plain_request buffer_of_rent request)

-- The slot that was looked up is that of a job's operation: its request is the job's next one, and it is completed only if its cancel was
-- asked for, with the error of a cancel.
pub record IsOwn (course : Coursed) (cancels : ℕ) (slot : Option (Slot Rented)) : Type 0 where
  pub moves : NextIf course (request_in slot)
  pub asked : (outcome : Outcome) → IsCompleted slot outcome → (cancels ≢ 0) × (outcome ≡ Fail CANCELED)

-- The driver holds the operation that a job waits for, which is one of those that were submitted, and its slot is that of the job's
-- operation.
abbrev pub FitsWait : Ops Rented → Coursed → ℕ → Wait → Type 0
FitsWait ops course cancels (Room room) = Unit {0}
FitsWait ops course cancels (Waiting op) =
    Holds ops op × (number_of op < ops.given) × IsOwn course cancels (map.get ops.slots.values op.key)

-- The driver holds the operation that a job waits for.
abbrev pub HoldsWait : Ops Rented → Wait → Type 0
HoldsWait ops (Room room) = Unit {0}
HoldsWait ops (Waiting op) = Holds ops op

-- The operation that a job waits for is gone, if it waits for one.
abbrev pub IsGoneWait : Ops Rented → Wait → Type 0
IsGoneWait ops (Room room) = Unit {0}
IsGoneWait ops (Waiting op) = Holds ops op → ⊥

-- Two jobs don't wait for the same operation: those that they wait for have other numbers.
abbrev pub ApartWaits : Wait → Wait → Type 0
ApartWaits (Waiting one) (Waiting other) = number_of one ≢ number_of other
ApartWaits (Waiting one) (Room room) = Unit {0}
ApartWaits (Room room) other = Unit {0}

-- A job has no operation.
abbrev pub HasNone : Wait → Type 0
HasNone (Room room) = Unit {0}
HasNone (Waiting op) = ⊥

-- A call keeps what each other job waits for, if it doesn't wait for the same operation as this one.
pub record KeepsApart (old new : Ops Rented) (wait : Wait) : Type 0 where
  pub keep : (course : Coursed) (cancels : ℕ) (other : Wait) → FitsWait old course cancels other → ApartWaits wait other
      → FitsWait new course cancels other

-- What a job waits for next is apart from what each other one waits for, if what it waited for was.
abbrev pub StaysApart : Ops Rented → Wait → Wait → Type 0
StaysApart old wait next = (course : Coursed) (cancels : ℕ) (other : Wait) → FitsWait old course cancels other → ApartWaits wait other
    → ApartWaits next other

-- A fact of what a job waits for behind a step, if it isn't done.
abbrev pub IfBack : Step → (Wait → Type 0) → Type 0
IfBack (Again wait) P = P wait
IfBack (Pending wait) P = P wait
IfBack (OutOfMemory wait) P = P wait
IfBack (Ended end) P = Unit {0}

-- A fact of it, if there is more to do at once.
abbrev pub IfAgain : Step → (Wait → Type 0) → Type 0
IfAgain (Again wait) P = P wait
IfAgain (Pending wait) P = Unit {0}
IfAgain (OutOfMemory wait) P = Unit {0}
IfAgain (Ended end) P = Unit {0}

-- How much a poll may still do: a submission and an end for each byte at most.
abbrev pub most_steps : Coursed → Wait → ℕ
most_steps course (Room room) = suc (left_of course + left_of course)
most_steps course (Waiting op) = left_of course + left_of course

-- Laws of the trait need these here: jobs are apart from either side, and one that has no operation is apart from each.
pub apart_swaps : (one other : Wait) → ApartWaits one other → ApartWaits other one
apart_swaps (Waiting one) (Waiting other) apart = λ same. apart (sym same)
apart_swaps (Waiting one) (Room room) apart = tt
apart_swaps (Room room) (Room other) apart = tt
apart_swaps (Room room) (Waiting op) apart = tt

pub idle_apart : (one other : Wait) → HasNone one → ApartWaits one other
idle_apart (Room room) other idle = tt
idle_apart (Waiting op) other idle = absurd idle
