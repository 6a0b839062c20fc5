-- A listener, the driver that has its accept, and what its calls do.
use Rattle.std.specs.Prelude.{ℕ, ◌≡◌, ◌⊎◌, Option, None, Some, Result, Ok, Err}
use Rattle.rent_buf.specs.Parts.{Parts}
use Rattle.rent_buf.specs.Rent.{Rented}
use Rattle.rent_buf.specs.declared.fault.IoFault.TheVariants.{Os}
use Rattle.rent_buf.specs.declared.fault.OutOfMemory.{OutOfMemory as NoMemory}
use Rattle.machine.specs.declared.request.Outcome.{Outcome}
use Rattle.machine.specs.declared.request.Outcome.TheVariants as ended
use Rattle.machine.specs.declared.request.Request.{Request}
use Rattle.machine.specs.declared.request.Request.TheVariants.{Accept}
use Rattle.driver_core.specs.declared.op.Op.{Op}
use Rattle.driver_core.specs.declared.op.PollOp.{PollOp}
use Rattle.driver_core.specs.declared.op.PollOp.TheVariants.{Pending, Ready}
use Rattle.driver_core.specs.declared.op.SubmitError.{SubmitError}
use Rattle.driver_core.specs.declared.op.SubmitFault.{SubmitFault}
use Rattle.driver_core.specs.declared.op.SubmitFault.TheVariants.{OutOfMemory}
use Rattle.driver_core.specs.Ops.{Ops}
use Rattle.net_stream.specs.declared.listener.Accepted.{Accepted}
use Rattle.net_stream.specs.declared.listener.Accepted.TheVariants.{Waits, Made, Failed}
use Rattle.net_stream.specs.declared.listener.Listener.{Listener}
use Rattle.net_stream.specs.Drives.{FitsOp, Submission, Polling}

-- A listener of a handle, at which no accept waits.
abbrev pub fresh_listener : ℕ → Listener
fresh_listener fd = record { fd = fd; op = None }

-- A request is an accept at this handle.
abbrev pub IsAccept : ℕ → Request Rented Parts → Type 0
IsAccept fd (Accept h) = h ≡ fd
IsAccept fd _ = ⊥

-- The driver has the accept that a listener waits for.
abbrev pub FitsListener : Ops Rented → Listener → Type 0
FitsListener ops listener = FitsOp ops listener.op (IsAccept listener.fd)

-- What an accept came to, by its operation's outcome: the handle that was made, or its error. An outcome that no accept has is the error
-- 22.
abbrev pub accepted_of : Outcome → Accepted
accepted_of (ended.Made h) = Made h
accepted_of (ended.Fail error) = Failed (Os error)
accepted_of (ended.Count count) = Failed (Os 22)
accepted_of (ended.From count addr) = Failed (Os 22)

-- The accept that waited, or a new one, which was submitted.
abbrev pub HasAccept : {D : Type 0} → Submission D → D → D → ℕ → Option Op → Op → Type 0
HasAccept submits old mid fd (Some waited) op = (mid ≡ old) × (op ≡ waited)
HasAccept submits old mid fd None op = submits old mid (Accept fd) (Ok op)

-- What an accept answers, and what waits then, by what its poll answered.
abbrev pub LeavesAccept : Op → Result (PollOp Rented) (NoMemory × Op) → Option Op → Result Accepted SubmitFault → Type 0
LeavesAccept op (Ok (Pending back)) waits result = (result ≡ Ok Waits) × (waits ≡ Some op)
LeavesAccept op (Ok (Ready done)) waits result = (result ≡ Ok (accepted_of done.outcome)) × (waits ≡ None)
LeavesAccept op (Err error) waits result = (result ≡ Err OutOfMemory) × (waits ≡ Some op)

-- One that waited, or a new one, was polled once.
pub record Accepts {D : Type 0} (submits : Submission D) (polls : Polling D) (old new : D) (before now : Listener) (task : ℕ)
    (result : Result Accepted SubmitFault) : Type 0 where
  pub mid : D
  pub op : Op
  pub has : HasAccept submits old mid before.fd before.op op
  pub answer : Result (PollOp Rented) (NoMemory × Op)
  pub polled : polls mid new op task answer
  pub leaves : LeavesAccept op answer now.op result

-- None waited, and the submission was refused, for this reason: nothing was polled.
pub record RefusesAccept {D : Type 0} (submits : Submission D) (old new : D) (before : Listener) (why : SubmitFault) : Type 0 where
  pub idle : before.op ≡ None
  pub refused : SubmitError Rented
  pub submitted : submits old new (Accept before.fd) (Err refused)
  pub why_is : why ≡ refused.why

-- What an accept did: one submission at most, and one poll at most.
abbrev pub AcceptsOnce : {D : Type 0} → Submission D → Polling D → D → D → Listener → Listener → ℕ → Result Accepted SubmitFault → Type 0
AcceptsOnce submits polls old new before now task result =
    Accepts submits polls old new before now task result
    ⊎ ((why : SubmitFault) × (result ≡ Err why) × RefusesAccept submits old new before why × (now ≡ before))
