-- What came at a connection, as its stream sees it.
use Rattle.std.specs.Prelude.{ℕ, zero, suc, ◌≡◌, ◌⊎◌, Bool, true, false, List, [], Option, None, Some, Ok, Err, min, length}
use Rattle.rent_buf.specs.Rent.{Rented}
use Rattle.rent_buf.specs.declared.fault.IoFault.{IoFault}
use Rattle.rent_buf.specs.declared.fault.IoFault.TheVariants.{Os}
use Rattle.machine.specs.declared.request.Outcome.{Outcome}
use Rattle.machine.specs.declared.request.Outcome.TheVariants.{Count, From, Made, Fail}
use Rattle.rent_io.specs.declared.poll.PollBuf.{PollBuf}
use Rattle.rent_io.specs.declared.poll.PollBuf.TheVariants.{Ready, Pending, Again}
use Rattle.rent_io.specs.declared.poll.PollCount.{PollCount}
use Rattle.rent_io.specs.declared.poll.PollCount.TheVariants.{Ready as CountReady, Pending as CountPending, Again as CountAgain}
use Rattle.rent_io.specs.Counts.{Counts, Rose, no_counts}
use Rattle.rent_io.specs.Polls.{Fails as FailsBy, Pauses}
use Rattle.rent_io.specs.Reader.{Reader}
use Rattle.net_stream.specs.declared.tally.Turn.{Turn}
use Rattle.net_stream.specs.declared.tally.Turn.TheVariants.{Gives, Waits, Fails}

-- An inbox is the bytes that came and weren't read, whether the end came, a fault that no call answered yet, and the counts of its stream.
pub record Inboxed : Type 0 where
  pub arrived : List ℕ
  pub ended : Bool
  pub fault : Option IoFault
  pub counts : Counts

-- One at which nothing came.
abbrev pub fresh_inbox : Inboxed
fresh_inbox = record { arrived = []; ended = false; fault = None; counts = no_counts }

-- It as a reader: what is left is what arrived.
abbrev pub inbox_reader : Inboxed → Reader
inbox_reader inbox = record { left = inbox.arrived; counts = inbox.counts }

-- A read with so much room gives so many bytes: the lesser of what arrived and of its room, and none of some room only at the end.
abbrev pub GivesInbox : Inboxed → ℕ → ℕ → Type 0
GivesInbox inbox room n =
    (n ≡ min (length inbox.arrived) room) × (n ≡ 0 → (room ≡ 0) ⊎ ((inbox.arrived ≡ []) × (inbox.ended ≡ true) × (inbox.fault ≡ None)))

-- A read that waits: nothing arrived, no fault came and no end.
abbrev pub WaitsInbox : Inboxed → Type 0
WaitsInbox inbox = (inbox.arrived ≡ []) × (inbox.fault ≡ None) × (inbox.ended ≡ false)

-- A read that fails: nothing arrived, and this fault was answered by no call yet.
abbrev pub FailsInbox : Inboxed → IoFault → Type 0
FailsInbox inbox fault = (inbox.arrived ≡ []) × (inbox.fault ≡ Some fault)

-- What a read of an inbox answers, by its room.
abbrev pub ReadsInbox : {T : Type 0} → Inboxed → ℕ → PollBuf T → Type 0
ReadsInbox inbox room (Ready (Ok n) back) = GivesInbox inbox room n
ReadsInbox inbox room (Ready (Err fault) back) = FailsInbox inbox fault
ReadsInbox inbox room (Pending back) = WaitsInbox inbox
ReadsInbox inbox room (Again back) = ⊥

-- What is to be answered, and what was counted for it. Nothing is given yet.
abbrev pub Turns : ℕ → ℕ → Inboxed → Inboxed → Turn → Type 0
Turns room task old new (Gives n) = GivesInbox old room n × (new.arrived ≡ old.arrived) × (new.fault ≡ old.fault)
    × (n ≡ 0 → (room ≡ 0) ⊎ Rose old.counts.zeros new.counts.zeros)
Turns room task old new Waits = WaitsInbox old × (new.arrived ≡ old.arrived) × (new.fault ≡ old.fault) × Pauses task old.counts new.counts
Turns room task old new (Fails fault) =
    FailsInbox old fault × (new.arrived ≡ old.arrived) × (new.fault ≡ None) × FailsBy old.counts new.counts fault

-- The fault that no call answered yet, after a read: none once it is answered, and else what it was.
abbrev pub FaultAfter : {T : Type 0} → Option IoFault → Option IoFault → PollBuf T → Type 0
FaultAfter old new (Ready (Ok n) back) = new ≡ old
FaultAfter old new (Ready (Err fault) back) = new ≡ None
FaultAfter old new (Pending back) = new ≡ old
FaultAfter old new (Again back) = new ≡ old

-- The same after a fill, a flush or a shutdown.
abbrev pub FaultTold : Option IoFault → Option IoFault → PollCount → Type 0
FaultTold old new (CountReady (Ok n)) = new ≡ old
FaultTold old new (CountReady (Err fault)) = new ≡ None
FaultTold old new CountPending = new ≡ old
FaultTold old new CountAgain = new ≡ old

-- More may come: all that came was read, and no end and no fault came.
abbrev pub WantsMore : Inboxed → Type 0
WantsMore inbox = (inbox.arrived ≡ []) × (inbox.ended ≡ false) × (inbox.fault ≡ None)

-- The end came with a count of none, into a buffer with room.
abbrev pub is_end : Outcome → ℕ → Bool
is_end (Count zero) zero = false
is_end (Count zero) (suc room) = true
is_end (Count (suc k)) room = false
is_end (From k addr) room = false
is_end (Made h) room = false
is_end (Fail e) room = false

-- The fault of an outcome.
abbrev pub fault_of : Outcome → Option IoFault
fault_of (Count k) = None
fault_of (From k addr) = None
fault_of (Made h) = None
fault_of (Fail e) = Some (Os e)

-- What came: what the buffer holds after a count, and nothing after another outcome.
abbrev pub came : Outcome → List ℕ → List ℕ
came (Count k) bytes = bytes
came (From k addr) bytes = bytes
came (Made h) bytes = []
came (Fail e) bytes = []

-- An inbox whose receive ended so, with this buffer.
abbrev pub received : Outcome → Rented → Inboxed → Inboxed
received outcome buf inbox =
    record inbox { arrived = came outcome buf.bytes; ended = is_end outcome buf.total; fault = fault_of outcome }
