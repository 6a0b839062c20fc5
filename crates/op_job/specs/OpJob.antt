-- A job of operations, and the driver that holds the one that it waits for. Cited by `OpJob`.
use Rattle.std.specs.Prelude.{ℕ, ◌≡◌, ◌≢◌, ◌<◌, List, [], Result, Ok, IsOk}
use Rattle.rent_buf.specs.declared.fault.OutOfMemory.{OutOfMemory}
use Rattle.std.proofs.Common.{sym}
use Rattle.core_exec.specs.declared.job.JobStep.{JobStep}
use Rattle.core_exec.specs.declared.job.JobStep.TheVariants as step
use Rattle.driver_core.specs.declared.op.Op.{Op}
use Rattle.driver_core.specs.declared.op.PollOp.{PollOp}
use Rattle.driver_core.specs.declared.op.PollOp.TheVariants as polled
use Rattle.driver_core.specs.Op.{Holds, number_of}
use Rattle.driver_core.specs.Ops.{Ops}
use Rattle.op_job.specs.declared.op_job.JobEnd.{JobEnd}
use Rattle.op_job.specs.declared.op_job.OpJob.{OpJob}
use Rattle.op_job.specs.declared.op_job.State.{State}
use Rattle.op_job.specs.declared.op_job.State.TheVariants.{Unsent, Waiting}

-- The driver holds the operation that a job waits for, and it is one of those that were submitted.
abbrev pub FitsState : {B : Type 0} → Ops B → State B → Type 0
FitsState ops (Unsent request) = Unit {0}
FitsState ops (Waiting op) = Holds ops op × (number_of op < ops.given)

-- Two jobs don't wait for the same operation.
abbrev pub ApartStates : {B : Type 0} → State B → State B → Type 0
ApartStates (Waiting one) (Waiting other) = number_of one ≢ number_of other
ApartStates (Waiting one) (Unsent request) = Unit {0}
ApartStates (Unsent request) other = Unit {0}

-- A job has no operation.
abbrev pub IsUnsent : {B : Type 0} → State B → Type 0
IsUnsent (Unsent request) = Unit {0}
IsUnsent (Waiting op) = ⊥

-- The operation that a job waits for is gone, if it waits for one.
abbrev pub IsGone : {B : Type 0} → Ops B → State B → Type 0
IsGone ops (Unsent request) = Unit {0}
IsGone ops (Waiting op) = Holds ops op → ⊥

-- Each state that fits the operations and doesn't wait for that of a state fits them afterwards.
abbrev pub KeepsApart : {B : Type 0} → Ops B → Ops B → State B → Type 0
KeepsApart {B} old new state = (other : State B) → FitsState old other → ApartStates state other → FitsState new other

-- A cancel is that of the operation that a job waits for, as the driver says it, and without one it changes nothing.
abbrev pub AsksOp : {D B : Type 0} → (D → D → Op → Result Unit OutOfMemory → Type 0) → D → D → State B → Result Unit OutOfMemory → Type 0
AsksOp cancels old new (Unsent request) result = (new ≡ old) × IsOk result
AsksOp cancels old new (Waiting op) result = cancels old new op result

-- A job waits for an operation, which its driver polled last for this task, and that poll was pending.
abbrev pub PendsState : {D B : Type 0} → (D → D → Op → ℕ → Result (PollOp B) (OutOfMemory × Op) → Type 0) → D → ℕ → State B → Type 0
PendsState polls new task (Unsent request) = ⊥
PendsState {D} polls new task (Waiting op) = (mid : D) × polls mid new op task (Ok (polled.Pending op))

-- So does one of which a poll is pending.
abbrev pub PendsBy : {D B O : Type 0} → (D → D → Op → ℕ → Result (PollOp B) (OutOfMemory × Op) → Type 0) → D → ℕ → JobStep (State B) O
    → Type 0
PendsBy polls new task (step.Done end) = Unit {0}
PendsBy polls new task (step.Pending state) = PendsState polls new task state
PendsBy polls new task (step.OutOfMemory state) = Unit {0}

abbrev pub PendsJob : {D B F O : Type 0} → (D → D → Op → ℕ → Result (PollOp B) (OutOfMemory × Op) → Type 0) → D → ℕ → JobStep (OpJob B F) O
    → Type 0
PendsJob polls new task (step.Done end) = Unit {0}
PendsJob polls new task (step.Pending job) = PendsState polls new task job.state
PendsJob polls new task (step.OutOfMemory job) = Unit {0}

-- How often a job was polled.
abbrev pub polls_of : {B F : Type 0} → OpJob B F → ℕ
polls_of job = job.polls

-- How often its cancel was asked for.
abbrev pub cancels_of : {B F : Type 0} → OpJob B F → ℕ
cancels_of job = job.cancels

-- A driver whose operations are these holds that of a job.
abbrev pub HoldsOps : {D B F : Type 0} → (D → Ops B) → D → OpJob B F → Type 0
HoldsOps ops driver job = FitsState (ops driver) job.state

-- So it fits that driver as the task of each number.
abbrev pub FitsOps : {D B F : Type 0} → (D → Ops B) → D → ℕ → OpJob B F → Type 0
FitsOps ops driver task job = HoldsOps ops driver job

-- The operation that a job waited for is gone, if it waited for one.
abbrev pub GoneOps : {D B F : Type 0} → (D → Ops B) → D → OpJob B F → Type 0
GoneOps ops driver job = IsGone (ops driver) job.state

-- A cancel of a job is that of the operation that it waits for, as the driver says it.
abbrev pub AsksOps : {D B F : Type 0} → (D → D → Op → Result Unit OutOfMemory → Type 0) → D → D → OpJob B F → Result Unit OutOfMemory → Type 0
AsksOps cancels old new job result = AsksOp cancels old new job.state result

-- Two jobs don't wait for the same operation.
abbrev pub ApartOps : {B F : Type 0} → OpJob B F → OpJob B F → Type 0
ApartOps one other = ApartStates one.state other.state

-- A job has no operation.
abbrev pub HasNoOp : {B F : Type 0} → OpJob B F → Type 0
HasNoOp job = IsUnsent job.state

-- Nothing is said of an output.
abbrev pub no_aim : {B F : Type 0} → OpJob B F → List ℕ
no_aim job = []

-- So each output meets that.
abbrev pub AnyEnd : {B F O : Type 0} → List ℕ → JobEnd B F O → Type 0
AnyEnd aim end = Unit {0}

-- Laws of the trait need these here: states are apart from either side, and one that has no operation is apart from each.
pub apart_swaps : {B : Type 0} (one other : State B) → ApartStates one other → ApartStates other one
apart_swaps (Waiting one) (Waiting other) apart = λ same. apart (sym same)
apart_swaps (Waiting one) (Unsent request) apart = tt
apart_swaps (Unsent request) (Unsent other) apart = tt
apart_swaps (Unsent request) (Waiting op) apart = tt

pub unsent_apart : {B : Type 0} (one other : State B) → IsUnsent one → ApartStates one other
unsent_apart (Unsent request) other unsent = tt
unsent_apart (Waiting op) other unsent = absurd unsent
