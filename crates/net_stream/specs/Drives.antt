-- What a connection asks of its driver, and what becomes of its bytes by the answer.
use Rattle.std.specs.Prelude.{ℕ, ◌≡◌, ◌≢◌, ◌<◌, Option, None, Some, Result, Ok, Err}
use Rattle.rent_buf.specs.Parts.{Parts}
use Rattle.rent_buf.specs.Rent.{Rented}
use Rattle.rent_buf.specs.declared.fault.OutOfMemory.{OutOfMemory as NoMemory}
use Rattle.machine.specs.declared.request.Request.{Request}
use Rattle.machine.specs.declared.request.Request.TheVariants.{Recv, Send}
use Rattle.driver_core.specs.declared.op.Op.{Op}
use Rattle.driver_core.specs.declared.op.PollOp.{PollOp}
use Rattle.driver_core.specs.declared.op.SubmitError.{SubmitError}
use Rattle.driver_core.specs.declared.op.Submitted.{Submitted}
use Rattle.driver_core.specs.declared.op.Submitted.TheVariants as submitted
use Rattle.driver_core.specs.Op.{Holds, number_of}
use Rattle.driver_core.specs.Ops.{Ops}
use Rattle.driver_core.specs.Requests.{request_at}

-- A driver's submission, and its poll, of buffers that are rented: before, after, and what it was asked and answered.
abbrev pub Submission : Type 0 → Type 1
Submission D = D → D → Request Rented Parts → Result Op (SubmitError Rented) → Type 0

abbrev pub Polling : Type 0 → Type 1
Polling D = D → D → Op → ℕ → Result (PollOp Rented) (NoMemory × Op) → Type 0

-- A driver's submission under a group: the same, with the group.
abbrev pub Joining : Type 0 → Type 1
Joining D = D → D → Request Rented Parts → ℕ → Result (Submitted Rented) (SubmitError Rented) → Type 0

-- A submission under a group that isn't canceled, as a submission.
abbrev pub entered : Result Op (SubmitError Rented) → Result (Submitted Rented) (SubmitError Rented)
entered (Ok op) = Ok (submitted.Op op)
entered (Err refused) = Err refused

abbrev pub under : {D : Type 0} → Joining D → ℕ → Submission D
under joins group old new request result = joins old new request group (entered result)

-- The driver holds an operation, one of those that were submitted.
abbrev pub HoldsOp : Ops Rented → Op → Type 0
HoldsOp ops op = Holds ops op × (number_of op < ops.given)

-- A request is a receive from this handle.
abbrev pub IsRecv : ℕ → Request Rented Parts → Type 0
IsRecv fd (Recv h buf) = h ≡ fd
IsRecv fd _ = ⊥

-- A request is a send to this handle of a buffer with this total.
abbrev pub IsSend : ℕ → ℕ → Request Rented Parts → Type 0
IsSend fd total (Send h buf) = (h ≡ fd) × (buf.total ≡ total)
IsSend fd total _ = ⊥

-- What is known of a request, if there is one.
abbrev pub IfAsked : Option (Request Rented Parts) → (Request Rented Parts → Type 0) → Type 0
IfAsked None P = ⊥
IfAsked (Some request) P = P request

-- The operation that waits, if one does, is held, and its request is such a one.
abbrev pub FitsOp : Ops Rented → Option Op → (Request Rented Parts → Type 0) → Type 0
FitsOp ops None P = Unit {0}
FitsOp ops (Some op) P = HoldsOp ops op × IfAsked (request_at ops op) P

-- An operation isn't the one that waits.
abbrev pub IsOther : Option Op → Op → Type 0
IsOther None other = Unit {0}
IsOther (Some op) other = other ≢ op

-- Each other operation that the driver held it holds, with its request, and none of them waits here.
abbrev pub KeepsOther : Ops Rented → Option Op → Ops Rented → Option Op → Type 0
KeepsOther old waited new waits = (other : Op) → HoldsOp old other → IsOther waited other →
    HoldsOp new other × (request_at new other ≡ request_at old other) × IsOther waits other

-- The operation that waits, if one does, is held.
abbrev pub IsHeldOp : Ops Rented → Option Op → Type 0
IsHeldOp ops None = Unit {0}
IsHeldOp ops (Some op) = HoldsOp ops op

-- The operation that waits, if one does, was dropped.
abbrev pub DropsFor : {D : Type 0} → (D → D → Op → Type 0) → D → D → Option Op → Type 0
DropsFor drops old new None = new ≡ old
DropsFor drops old new (Some op) = drops old new op

-- The operation that waited, if one did, is gone.
abbrev pub IsGone : Ops Rented → Option Op → Type 0
IsGone ops None = Unit {0}
IsGone ops (Some op) = Holds ops op → ⊥

-- A call makes no operation.
abbrev pub HoldsNoMore : Ops Rented → Ops Rented → Type 0
HoldsNoMore old new = (op : Op) → Holds new op → Holds old op
