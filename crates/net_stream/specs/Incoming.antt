-- What comes at a connection before its inbox has it.
use Rattle.std.specs.Prelude.{ℕ, ◌≡◌, ◌⊎◌, Bool, true, false, List, [], ◌++◌, Option, None, Some, Result, Ok, Err}
use Rattle.rent_buf.specs.Parts.{Parts}
use Rattle.rent_buf.specs.Rent.{Rented}
use Rattle.rent_buf.specs.declared.fault.OutOfMemory.{OutOfMemory as NoMemory}
use Rattle.machine.specs.declared.request.Outcome.{Outcome}
use Rattle.machine.specs.declared.request.Request.{Request}
use Rattle.machine.specs.declared.request.Request.TheVariants.{Recv}
use Rattle.driver_core.specs.declared.op.Done.{Done}
use Rattle.driver_core.specs.declared.op.Op.{Op}
use Rattle.driver_core.specs.declared.op.PollOp.{PollOp}
use Rattle.driver_core.specs.declared.op.PollOp.TheVariants.{Pending, Ready}
use Rattle.driver_core.specs.declared.op.SubmitError.{SubmitError}
use Rattle.driver_core.specs.declared.op.SubmitFault.{SubmitFault}
use Rattle.driver_core.specs.declared.op.Submitted.TheVariants.{Canceled}
use Rattle.net_stream.specs.declared.incoming.Polled.{Polled}
use Rattle.net_stream.specs.declared.incoming.Polled.TheVariants.{Waits, Ended, OutOfMemory}
use Rattle.net_stream.specs.Drives.{Joining, Polling, Submission, under}
use Rattle.net_stream.specs.Held.{buffer_here}
use Rattle.net_stream.specs.Inbox.{Inboxed, WantsMore, came, received}

-- It is the receive that waits, if one does, and how one ended that the inbox hasn't taken in yet, if one has, with its buffer.
pub record Coming : Type 0 where
  pub op : Option Op
  pub ended : Option (Outcome × Rented)

-- How a receive ended, with its buffer.
abbrev pub ended_with : Option Outcome → Option Rented → Option (Outcome × Rented)
ended_with None buf = None
ended_with (Some outcome) buf = Some (outcome, buffer_here buf)

-- Nothing waits, and nothing came.
abbrev pub idle_coming : Coming
idle_coming = record { op = None; ended = None }

-- A receive waits.
abbrev pub with_receive : Op → Coming
with_receive op = record { op = Some op; ended = None }

-- One has ended so.
abbrev pub with_ended : Outcome → Rented → Coming
with_ended outcome buf = record { op = None; ended = Some (outcome, buf) }

-- What came and the inbox hasn't.
abbrev pub came_in : Option (Outcome × Rented) → List ℕ
came_in None = []
came_in (Some ended) = came ended.0 ended.1.bytes

-- All that came and wasn't read.
abbrev pub unread : Inboxed → Coming → List ℕ
unread inbox coming = inbox.arrived ++ came_in coming.ended

-- A receive from a handle into an empty buffer.
pub record AsksEmpty (fd : ℕ) (request : Request Rented Parts) : Type 0 where
  pub buf : Rented
  pub empty : buf.bytes ≡ []
  pub request_is : request ≡ Recv fd buf

-- A receive was submitted: it waits.
pub record BegunReceive {D : Type 0} (submits : Submission D) (old mid : D) (fd : ℕ) (now : Coming) : Type 0 where
  pub op : Op
  pub request : Request Rented Parts
  pub asks : AsksEmpty fd request
  pub submitted : submits old mid request (Ok op)
  pub now_is : now ≡ with_receive op

-- It was refused, for this reason: none waits.
pub record RefusedReceive {D : Type 0} (submits : Submission D) (old new : D) (fd : ℕ) (now : Coming) (why : SubmitFault) : Type 0 where
  pub request : Request Rented Parts
  pub asks : AsksEmpty fd request
  pub refused : SubmitError Rented
  pub why_is : why ≡ refused.why
  pub submitted : submits old new request (Err refused)
  pub same : now ≡ idle_coming

-- A submission of a receive.
abbrev pub BeginsReceive : {D : Type 0} → Submission D → D → D → ℕ → Coming → Result Unit SubmitFault → Type 0
BeginsReceive submits old new fd now (Ok done) = BegunReceive submits old new fd now
BeginsReceive submits old new fd now (Err why) = RefusedReceive submits old new fd now why

-- Under a canceled group none was submitted.
pub record CanceledReceive {D : Type 0} (joins : Joining D) (old new : D) (fd group : ℕ) (now : Coming) : Type 0 where
  pub request : Request Rented Parts
  pub asks : AsksEmpty fd request
  pub submitted : joins old new request group (Ok (Canceled request))
  pub same : now ≡ idle_coming

-- A submission of a receive under a group: whether it waits.
abbrev pub JoinsReceive : {D : Type 0} → Joining D → D → D → ℕ → ℕ → Coming → Result Bool SubmitFault → Type 0
JoinsReceive joins old new fd group now (Ok true) = BegunReceive (under joins group) old new fd now
JoinsReceive joins old new fd group now (Ok false) = CanceledReceive joins old new fd group now
JoinsReceive joins old new fd group now (Err why) = RefusedReceive (under joins group) old new fd now why

-- The receive that waits was polled, for this task, and waits on.
pub record StaysReceive {D : Type 0} (polls : Polling D) (mid new : D) (before now : Coming) (task : ℕ)
    (answer : Op → Result (PollOp Rented) (NoMemory × Op)) : Type 0 where
  pub op : Op
  pub waited : before.op ≡ Some op
  pub polled : polls mid new op task (answer op)
  pub same : now ≡ before

-- It ended: what came is what its buffer holds.
pub record EndsReceive {D : Type 0} (polls : Polling D) (mid new : D) (fd : ℕ) (before now : Coming) (task : ℕ) : Type 0 where
  pub op : Op
  pub waited : before.op ≡ Some op
  pub done : Done Rented
  pub buf : Rented
  pub polled : polls mid new op task (Ok (Ready done))
  pub request : done.request ≡ Recv fd buf
  pub now_is : now ≡ with_ended done.outcome buf

-- A poll of the receive that waits.
abbrev pub PollsReceive : {D : Type 0} → Polling D → D → D → ℕ → Coming → Coming → ℕ → Polled → Type 0
PollsReceive polls mid new fd before now task Waits = StaysReceive polls mid new before now task (λ op. Ok (Pending op))
PollsReceive polls mid new fd before now task Ended = EndsReceive polls mid new fd before now task
PollsReceive polls mid new fd before now task OutOfMemory =
    (error : NoMemory) × StaysReceive polls mid new before now task (λ op. Err (error, op))

-- What came is given to an inbox that wants more: it has just that then. Else nothing changes.
abbrev pub GivesIf : Option (Outcome × Rented) → Coming → Inboxed → Coming → Inboxed → Bool → Type 0
GivesIf ended before inbox now later false = (now ≡ before) × (later ≡ inbox) × ((WantsMore inbox → ⊥) ⊎ (ended ≡ None))
GivesIf None before inbox now later true = ⊥
GivesIf (Some ended) before inbox now later true =
    WantsMore inbox × (now ≡ record before { ended = None }) × (later ≡ received ended.0 ended.1 inbox)

abbrev pub Gives : Coming → Inboxed → Coming → Inboxed → Bool → Type 0
Gives before inbox now later given = GivesIf before.ended before inbox now later given
