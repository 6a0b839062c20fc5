-- A job over a pipe, and the driver that it fits. Cited by `PipeJob`.
use Rattle.std.specs.Prelude.{ℕ, ◌≡◌, ◌≢◌, Bool, List, [], ◌++◌, Result, Ok, Err, IsOk}
use Rattle.rent_buf.specs.Rent.{Rented}
use Rattle.rent_buf.specs.declared.fault.IoFault.{IoFault}
use Rattle.rent_buf.specs.declared.fault.OutOfMemory.{OutOfMemory}
use Rattle.core_exec.specs.declared.job.JobStep.{JobStep}
use Rattle.core_exec.specs.declared.job.JobStep.TheVariants as job
use Rattle.driver_core.specs.Ops.{Ops}
use Rattle.ready_driver.specs.Io.{IoView}
use Rattle.ready_driver.specs.LegacyState.{LegacyState, ops_in}
use Rattle.op_driver.specs.Legacy.{LegacyCancels}
use Rattle.pipe_job.specs.Causes.{PipeFaultFor, WaitsFor}
use Rattle.pipe_job.specs.Course.{received_in, sent_in}
use Rattle.pipe_job.specs.Moves.{HasOwn, MovesBytes}
use Rattle.pipe_job.specs.Rest.{IsOwnOrNew, LeavesRest}
use Rattle.pipe_job.specs.Waits.{ApartWaits, FitsWait, HasNone, IsGoneWait}
use Rattle.pipe_job.specs.declared.pipe_job.PipeJob.{PipeJob}
use Rattle.pipe_job.specs.declared.step.Wait.{Wait}
use Rattle.pipe_job.specs.declared.step.Wait.TheVariants.{Room, Waiting}

-- How often a job was polled.
abbrev pub polls_of : PipeJob → ℕ
polls_of job = job.polls

-- How often its cancel was asked for.
abbrev pub cancels_of : PipeJob → ℕ
cancels_of job = job.cancels

-- What it is for: its bytes.
abbrev pub aim_of : PipeJob → List ℕ
aim_of job = job.course.bytes

-- The bytes that it has sent.
abbrev pub sent_of : PipeJob → List ℕ
sent_of job = sent_in job.course

-- Those that it has received.
abbrev pub received_of : PipeJob → List ℕ
received_of job = received_in job.course

-- It received the bytes that it is for, or failed.
abbrev pub IsAim : List ℕ → Result (List ℕ) IoFault → Type 0
IsAim aim (Ok bytes) = bytes ≡ aim
IsAim aim (Err fault) = Unit {0}

-- The driver holds the operation that a job waits for.
abbrev pub HoldsPipe : {I : Type 0} → LegacyState I Rented → PipeJob → Type 0
HoldsPipe driver job = FitsWait (ops_in driver) job.course job.cancels job.wait

-- So it fits the driver as the task of each number.
abbrev pub FitsPipe : {I : Type 0} → LegacyState I Rented → ℕ → PipeJob → Type 0
FitsPipe driver task job = HoldsPipe driver job

-- The operation that a job waited for is gone, if it waited for one.
abbrev pub IsGonePipe : {I : Type 0} → LegacyState I Rented → PipeJob → Type 0
IsGonePipe driver job = IsGoneWait (ops_in driver) job.wait

-- Two jobs don't wait for the same operation.
abbrev pub ApartPipes : PipeJob → PipeJob → Type 0
ApartPipes one other = ApartWaits one.wait other.wait

-- A job has no operation.
abbrev pub IsIdle : PipeJob → Type 0
IsIdle job = HasNone job.wait

-- A cancel is the driver's, of the operation that a job waits for; without one nothing is asked for, and the driver is as it was.
abbrev pub AsksWait : {I : Type 0} → LegacyState I Rented → LegacyState I Rented → Wait → Result Unit OutOfMemory → Type 0
AsksWait old new (Room room) result = (new ≡ old) × IsOk result
AsksWait old new (Waiting op) result = LegacyCancels old new op result

-- The same of a job.
abbrev pub AsksPipe : {I : Type 0} → LegacyState I Rented → LegacyState I Rented → PipeJob → Result Unit OutOfMemory → Type 0
AsksPipe old new job result = AsksWait old new job.wait result

-- A job fits every driver.
abbrev pub FitsEach : PipeJob → Type 0
FitsEach job = (ops : Ops Rented) → FitsWait ops job.course job.cancels job.wait

-- A call of a job leaves the rest of its driver: what the user holds, and the operations of others.
abbrev pub LeavesPipe : {I : Type 0} → LegacyState I Rented → LegacyState I Rented → PipeJob → Type 0
LeavesPipe old new job = LeavesRest old new job.wait

-- The operation that a job waits for behind a call it waited for before, or it was submitted in the call, in which so many were submitted
-- before.
abbrev pub IsNewPipe : ℕ → PipeJob → PipeJob → Type 0
IsNewPipe given job next = IsOwnOrNew given job.wait next.wait

-- A poll of a job that has no bytes, and no operation, is done.
abbrev pub EndsEmpty : PipeJob → JobStep PipeJob (Result (List ℕ) IoFault) → Type 0
EndsEmpty was result = IsIdle was → aim_of was ≡ [] → result ≡ job.Done (Ok [])

-- The causes of the fault that a poll of a job ends with, if it does.
abbrev pub EndsJob : {I : Type 0} → (I → IoView) → Bool → LegacyState I Rented → LegacyState I Rented → PipeJob
    → JobStep PipeJob (Result (List ℕ) IoFault) → Type 0
EndsJob view tells old new was (job.Done (Ok bytes)) = Unit {0}
EndsJob view tells old new was (job.Done (Err fault)) =
    PipeFaultFor view tells was.course.pipe was.cancels (HasOwn (view old.handling.io).world was.course) old new fault
EndsJob view tells old new was (job.Pending next) = Unit {0}
EndsJob view tells old new was (job.OutOfMemory next) = Unit {0}

-- What a poll sends and receives joins what the job had sent and received before, and it receives only once all its bytes are sent. One
-- that is done without a fault has sent all, with what this poll sent, and its output is what it has received.
abbrev pub MovesJob : {I : Type 0} → (I → IoView) → Bool → Bool → LegacyState I Rented → LegacyState I Rented → PipeJob
    → JobStep PipeJob (Result (List ℕ) IoFault) → Type 0
MovesJob view tells memory old new was (job.Done (Ok bytes)) = (moves : MovesBytes view tells memory was.course.pipe old new)
    × (aim_of was ≡ sent_of was ++ moves.sent) × (bytes ≡ received_of was ++ moves.got)
MovesJob view tells memory old new was (job.Done (Err fault)) = Unit {0}
MovesJob view tells memory old new was (job.Pending next) = (moves : MovesBytes view tells memory was.course.pipe old new)
    × (sent_of next ≡ sent_of was ++ moves.sent) × (received_of next ≡ received_of was ++ moves.got)
    × (moves.got ≢ [] → sent_of next ≡ aim_of next)
MovesJob view tells memory old new was (job.OutOfMemory next) = (moves : MovesBytes view tells memory was.course.pipe old new)
    × (sent_of next ≡ sent_of was ++ moves.sent) × (received_of next ≡ received_of was ++ moves.got)
    × (moves.got ≢ [] → sent_of next ≡ aim_of next)

-- Why a job is pending behind a poll, if it is.
abbrev pub WaitsJob : {I : Type 0} → (I → IoView) → LegacyState I Rented → LegacyState I Rented
    → JobStep PipeJob (Result (List ℕ) IoFault) → Type 0
WaitsJob view old new (job.Done out) = Unit {0}
WaitsJob view old new (job.Pending next) = WaitsFor view old new next.wait
WaitsJob view old new (job.OutOfMemory next) = Unit {0}
