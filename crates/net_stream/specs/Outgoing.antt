-- What goes at a connection once its outbox gave it.
use Rattle.std.specs.Prelude.{ℕ, zero, suc, ◌≡◌, Bool, true, false, List, [], ◌∷◌, Option, None, Some, Result, Ok, Err, drop, length, min}
use Rattle.std.specs.Prelude.{take}
use Rattle.rent_buf.specs.Parts.{Parts}
use Rattle.rent_buf.specs.Rent.{Rented}
use Rattle.rent_buf.specs.declared.fault.IoFault.{IoFault}
use Rattle.rent_buf.specs.declared.fault.IoFault.TheVariants.{Os, WriteZero}
use Rattle.rent_buf.specs.declared.fault.OutOfMemory.{OutOfMemory as NoMemory}
use Rattle.machine.specs.declared.request.Outcome.{Outcome}
use Rattle.machine.specs.declared.request.Outcome.TheVariants.{Count, From, Made, Fail}
use Rattle.machine.specs.declared.request.Request.{Request}
use Rattle.machine.specs.declared.request.Request.TheVariants.{Send}
use Rattle.driver_core.specs.declared.op.Done.{Done}
use Rattle.driver_core.specs.declared.op.Op.{Op}
use Rattle.driver_core.specs.declared.op.PollOp.{PollOp}
use Rattle.driver_core.specs.declared.op.PollOp.TheVariants.{Pending, Ready}
use Rattle.driver_core.specs.declared.op.SubmitError.{SubmitError}
use Rattle.driver_core.specs.declared.op.SubmitFault.{SubmitFault}
use Rattle.driver_core.specs.declared.op.Submitted.TheVariants.{Canceled}
use Rattle.driver_core.specs.Ops.{Ops}
use Rattle.driver_core.specs.Requests.{request_at}
use Rattle.net_stream.specs.declared.incoming.Polled.{Polled}
use Rattle.net_stream.specs.declared.incoming.Polled.TheVariants.{Waits, Ended, OutOfMemory}
use Rattle.net_stream.specs.Drives.{Joining, Polling, Submission, under}
use Rattle.net_stream.specs.Outbox.{Outboxed, TakenOut}

-- It is the bytes that the next send is to have, while none waits, how many it has room for, and the send that waits, if one does.
pub record Going : Type 0 where
  pub unsent : List ℕ
  pub room : ℕ
  pub op : Option Op

-- Nothing is to go.
abbrev pub idle_going : ℕ → Going
idle_going room = record { unsent = []; room = room; op = None }

-- There are bytes.
abbrev pub has_bytes : List ℕ → Bool
has_bytes [] = false
has_bytes (byte ∷ bytes) = true

-- Where a send waits it has all bytes.
abbrev pub SentOutIf : Option Op → List ℕ → Type 0
SentOutIf None unsent = Unit {0}
SentOutIf (Some op) unsent = unsent ≡ []

-- How many bytes an outcome says were sent.
abbrev pub sent_by : Outcome → ℕ
sent_by (Count k) = k
sent_by (From k addr) = k
sent_by (Made h) = 0
sent_by (Fail e) = 0

-- The fault of a send of these bytes: its error, or that it took none of some.
abbrev pub zero_fault : List ℕ → Option IoFault
zero_fault [] = None
zero_fault (byte ∷ bytes) = Some WriteZero

abbrev pub send_fault : Outcome → List ℕ → Option IoFault
send_fault (Count zero) bytes = zero_fault bytes
send_fault (Count (suc k)) bytes = None
send_fault (From k addr) bytes = None
send_fault (Made h) bytes = None
send_fault (Fail e) bytes = Some (Os e)

-- A send of these bytes ended so: those that weren't sent are the next one's.
abbrev pub sent : Outcome → List ℕ → Going → Going
sent outcome bytes going = record going { unsent = drop (sent_by outcome) bytes; op = None }

-- A send waits: its bytes are with it.
abbrev pub sending : Op → Going → Going
sending op going = record going { unsent = []; op = Some op }

-- A send was submitted of all bytes: it waits.
pub record BegunSend {D : Type 0} (submits : Submission D) (old mid : D) (fd : ℕ) (before now : Going) : Type 0 where
  pub op : Op
  pub submitted : submits old mid (Send fd (record { bytes = before.unsent; total = before.room })) (Ok op)
  pub now_is : now ≡ sending op before

-- It was refused, for this reason: nothing changed here.
pub record RefusedSend {D : Type 0} (submits : Submission D) (old new : D) (fd : ℕ) (before now : Going) (why : SubmitFault) : Type 0 where
  pub refused : SubmitError Rented
  pub why_is : why ≡ refused.why
  pub submitted : submits old new (Send fd (record { bytes = before.unsent; total = before.room })) (Err refused)
  pub same : now ≡ before

-- A submission of a send.
abbrev pub BeginsSend : {D : Type 0} → Submission D → D → D → ℕ → Going → Going → Result Unit SubmitFault → Type 0
BeginsSend submits old new fd before now (Ok done) = BegunSend submits old new fd before now
BeginsSend submits old new fd before now (Err why) = RefusedSend submits old new fd before now why

-- Under a canceled group none was submitted: the bytes are the next one's.
pub record CanceledSend {D : Type 0} (joins : Joining D) (old new : D) (fd group : ℕ) (before now : Going) : Type 0 where
  pub back : Request Rented Parts
  pub submitted : joins old new (Send fd (record { bytes = before.unsent; total = before.room })) group (Ok (Canceled back))
  pub same : now ≡ before

-- A submission of a send under a group: whether it waits.
abbrev pub JoinsSend : {D : Type 0} → Joining D → D → D → ℕ → ℕ → Going → Going → Result Bool SubmitFault → Type 0
JoinsSend joins old new fd group before now (Ok true) = BegunSend (under joins group) old new fd before now
JoinsSend joins old new fd group before now (Ok false) = CanceledSend joins old new fd group before now
JoinsSend joins old new fd group before now (Err why) = RefusedSend (under joins group) old new fd before now why

-- The send that waits was polled, for this task, and waits on: nothing changed here.
pub record StaysSend {D : Type 0} (polls : Polling D) (mid new : D) (before now : Going) (task : ℕ)
    (answer : Op → Result (PollOp Rented) (NoMemory × Op)) : Type 0 where
  pub op : Op
  pub waited : before.op ≡ Some op
  pub polled : polls mid new op task (answer op)
  pub same : now ≡ before

-- It ended: its request, whose bytes were as they had been submitted, came back.
pub record EndsSend {D : Type 0} (ops : D → Ops Rented) (polls : Polling D) (mid new : D) (fd : ℕ) (before now : Going) (task : ℕ)
    (fault : Option IoFault) : Type 0 where
  pub op : Op
  pub waited : before.op ≡ Some op
  pub done : Done Rented
  pub buf : Rented
  pub polled : polls mid new op task (Ok (Ready done))
  pub request : done.request ≡ Send fd buf
  pub asked : request_at (ops mid) op ≡ Some (Send fd buf)
  pub now_is : now ≡ sent done.outcome buf.bytes before
  pub fault_is : fault ≡ send_fault done.outcome buf.bytes

-- A poll of the send that waits, which brought this fault, if any.
abbrev pub PollsSend : {D : Type 0} → (D → Ops Rented) → Polling D → D → D → ℕ → Going → Going → ℕ → Polled → Option IoFault → Type 0
PollsSend ops polls mid new fd before now task Waits fault = StaysSend polls mid new before now task (λ op. Ok (Pending op)) ×
    (fault ≡ None)
PollsSend ops polls mid new fd before now task Ended fault = EndsSend ops polls mid new fd before now task fault
PollsSend ops polls mid new fd before now task OutOfMemory fault =
    (error : NoMemory) × StaysSend polls mid new before now task (λ op. Err (error, op)) × (fault ≡ None)

-- Bytes of an outbox were taken: its first ones, as many as there was room for.
pub record Loads (before : Going) (outbox : Outboxed) (now : Going) (later : Outboxed) : Type 0 where
  pub taken : now ≡ record before { unsent = take before.room outbox.unsent }
  pub left : TakenOut (min before.room (length outbox.unsent)) outbox later
