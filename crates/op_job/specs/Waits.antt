-- What a driver did since an operation was polled last, for a task that waits for it. Cited by `OpJob` and `turn`.
use Rattle.std.specs.Prelude.{ℕ, ◌≡◌, ◌≢◌, ◌⊎◌, false, List, [], ◌∷◌, Result, Ok}
use Rattle.rent_buf.specs.Parts.{Parts}
use Rattle.rent_buf.specs.declared.fault.OutOfMemory.{OutOfMemory}
use Rattle.machine.specs.declared.request.Request.{Request}
use Rattle.core_exec.specs.Marks.{has_number}
use Rattle.driver_core.specs.declared.op.Op.{Op}
use Rattle.driver_core.specs.declared.op.PollOp.{PollOp}
use Rattle.driver_core.specs.declared.op.PollOp.TheVariants.{Pending}
use Rattle.driver_core.specs.declared.op.SubmitError.{SubmitError}
use Rattle.driver_core.specs.declared.op.Turned.{Turned}
use Rattle.driver_core.specs.Op.{number_of}
use Rattle.driver_core.specs.Ops.{Ops}
use Rattle.op_job.specs.declared.op_job.OpJob.{OpJob}
use Rattle.op_job.specs.declared.op_job.State.{State}
use Rattle.op_job.specs.declared.op_job.State.TheVariants.{Unsent, Waiting}
use Rattle.op_job.specs.OpJob.{ApartStates, FitsState}

-- What the calls of a driver do, as it says it: a submission, a poll, a cancel, and a turn; and its operations.
module _ {D B : Type 0} (submits : D → D → Request B Parts → Result Op (SubmitError B) → Type 0)
    (polls : D → D → Op → ℕ → Result (PollOp B) (OutOfMemory × Op) → Type 0) (cancels : D → D → Op → Result Unit OutOfMemory → Type 0)
    (turns : D → D → Turned → Type 0) (ops : D → Ops B) where
  -- A request was submitted.
  pub record Submission (old new : D) : Type 0 where
    pub request : Request B Parts
    pub result : Result Op (SubmitError B)
    pub does : submits old new request result

  -- Another operation was polled.
  pub record OtherPoll (op : Op) (old new : D) : Type 0 where
    pub other : Op
    pub task : ℕ
    pub result : Result (PollOp B) (OutOfMemory × Op)
    pub apart : number_of other ≢ number_of op
    pub does : polls old new other task result

  -- The cancel of another operation was asked for.
  pub record OtherCancel (op : Op) (old new : D) : Type 0 where
    pub other : Op
    pub result : Result Unit OutOfMemory
    pub apart : number_of other ≢ number_of op
    pub does : cancels old new other result

  -- The driver made a turn that doesn't name the task.
  pub record OtherTurn (task : ℕ) (old new : D) : Type 0 where
    pub turned : Turned
    pub does : turns old new turned
    pub unnamed : has_number task turned.woken ≡ false

  -- A step beside an operation and the task that waits for it. The driver holds the operation before it and behind it.
  pub record IsBeside (op : Op) (task : ℕ) (old new : D) : Type 0 where
    pub held : FitsState (ops old) (Waiting op)
    pub holds : FitsState (ops new) (Waiting op)
    pub step : Submission old new ⊎ (OtherPoll op old new ⊎ (OtherCancel op old new ⊎ OtherTurn task old new))

  -- Such steps led from a driver to another, by those between, of which the last comes first.
  abbrev pub LedBeside : Op → ℕ → D → List D → D → Type 0
  LedBeside op task first [] last = last ≡ first
  LedBeside op task first (mid ∷ mids) last = LedBeside op task first mids mid × IsBeside op task mid last

  -- A task waits for an operation: the driver polled it for this task, which was pending, and did nothing since but such steps.
  pub record IsAwaited (op : Op) (task : ℕ) (driver : D) : Type 0 where
    pub before : D
    pub behind : D
    pub pending : polls before behind op task (Ok (Pending op))
    pub mids : List D
    pub since : LedBeside op task behind mids driver

  -- A job waits for its operation so.
  abbrev pub WaitsState : D → ℕ → State B → Type 0
  WaitsState driver task (Unsent request) = ⊥
  WaitsState driver task (Waiting op) = IsAwaited op task driver

  abbrev pub WaitsOps : {F : Type 0} → D → ℕ → OpJob B F → Type 0
  WaitsOps driver task job = WaitsState driver task job.state

  -- Each job that waits for another operation than that of a state waits still.
  abbrev pub KeepsWaiting : D → D → State B → Type 0
  KeepsWaiting old new state = (other : State B) (s : ℕ) → FitsState (ops old) other → ApartStates state other
      → WaitsState old s other → WaitsState new s other
