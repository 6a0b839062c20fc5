-- A connection, the driver that has its operations, and what its calls do.
use Rattle.std.specs.Prelude.{ℕ, ◌≡◌, ◌≢◌, ◌⊎◌, Bool, true, false, Option, None, Some, Result, Ok, Err}
use Rattle.rent_buf.specs.Rent.{Rented}
use Rattle.rent_buf.specs.declared.fault.IoFault.{IoFault}
use Rattle.rent_buf.specs.declared.fault.IoFault.TheVariants.{Os}
use Rattle.machine.specs.declared.request.TheConstants.{CANCELED}
use Rattle.handle_core.specs.declared.table.Released.{Released}
use Rattle.driver_core.specs.declared.op.Op.{Op}
use Rattle.driver_core.specs.declared.op.SubmitFault.{SubmitFault}
use Rattle.driver_core.specs.declared.op.SubmitFault.TheVariants as refused
use Rattle.driver_core.specs.Ops.{Ops}
use Rattle.driver_core.specs.Requests.{request_at}
use Rattle.net_stream.specs.declared.connection.Connection.{Connection}
use Rattle.net_stream.specs.declared.incoming.Polled.{Polled}
use Rattle.net_stream.specs.declared.incoming.Polled.TheVariants as polled
use Rattle.net_stream.specs.declared.progress.Progress.{Progress}
use Rattle.net_stream.specs.declared.progress.Progress.TheVariants.{Idle, Waits, Moved}
use Rattle.net_stream.specs.Drives.{DropsFor, FitsOp, HoldsOp, IsOther, IsRecv, IsSend, Joining, Polling, Submission, under}
use Rattle.net_stream.specs.Inbox.{Inboxed, WantsMore, fresh_inbox}
use Rattle.net_stream.specs.Incoming.{BegunReceive, CanceledReceive, Coming, Gives, PollsReceive, RefusedReceive, idle_coming}
use Rattle.net_stream.specs.Outbox.{Outboxed, WantsSent, fresh_outbox, has_failed, later_fault}
use Rattle.net_stream.specs.Outgoing.{BegunSend, CanceledSend, Going, Loads, PollsSend, RefusedSend, has_bytes, idle_going}

-- A connection of a handle that waits for nothing, with so much room in each direction.
abbrev pub fresh_connection : ℕ → ℕ → Connection
fresh_connection fd room = record {
  fd = fd;
  inbox = fresh_inbox;
  outbox = fresh_outbox room;
  incoming = idle_coming;
  outgoing = idle_going room;
}

-- Two operations that wait, if both do, aren't the same.
abbrev pub AreDifferent : Option Op → Option Op → Type 0
AreDifferent None other = Unit {0}
AreDifferent (Some op) None = Unit {0}
AreDifferent (Some op) (Some other) = other ≢ op

-- The driver has the operations that a connection waits for: a receive from its handle, and a send to it. Its streams don't matter.
pub record FitsConnection (ops : Ops Rented) (conn : Connection) : Type 0 where
  pub receives : FitsOp ops conn.incoming.op (IsRecv conn.fd)
  pub sends : FitsOp ops conn.outgoing.op (IsSend conn.fd conn.outgoing.room)
  pub apart : AreDifferent conn.incoming.op conn.outgoing.op

-- Two connections wait for no operation together.
pub record AreBeside (one other : Connection) : Type 0 where
  pub both_receive : AreDifferent one.incoming.op other.incoming.op
  pub one_receives : AreDifferent one.incoming.op other.outgoing.op
  pub one_sends : AreDifferent one.outgoing.op other.incoming.op
  pub both_send : AreDifferent one.outgoing.op other.outgoing.op

-- Each operation that the driver held and that the connection didn't wait for it holds, with its request, and the connection doesn't wait
-- for it now.
abbrev pub KeepsBeside : Ops Rented → Connection → Ops Rented → Connection → Type 0
KeepsBeside old before new now = (other : Op) → HoldsOp old other → IsOther before.incoming.op other → IsOther before.outgoing.op other →
    HoldsOp new other × (request_at new other ≡ request_at old other) × IsOther now.incoming.op other × IsOther now.outgoing.op other

-- Each operation that the driver held and that the connection didn't wait for it holds, with its request.
abbrev pub KeepsOutside : Ops Rented → Connection → Ops Rented → Type 0
KeepsOutside old conn new = (other : Op) → HoldsOp old other → IsOther conn.incoming.op other → IsOther conn.outgoing.op other →
    HoldsOp new other × (request_at new other ≡ request_at old other)

-- Of a connection only what comes has changed.
abbrev pub OnlyComes : Connection → Connection → Type 0
OnlyComes before now = now ≡ record before { inbox = now.inbox; incoming = now.incoming }

-- What came was given to the inbox, or is kept while that has bytes, an end or a fault which weren't read.
abbrev pub Settles : Coming → Inboxed → Connection → Result Progress SubmitFault → Type 0
Settles coming inbox now (Ok Idle) = Gives coming inbox now.incoming now.inbox false
Settles coming inbox now (Ok Waits) = ⊥
Settles coming inbox now (Ok Moved) = Gives coming inbox now.incoming now.inbox true
Settles coming inbox now (Err why) = ⊥

-- What a receive leaves, by what its poll came to.
abbrev pub LeavesReceive : Polled → Coming → Connection → Connection → Result Progress SubmitFault → Type 0
LeavesReceive polled.Waits after before now result = (result ≡ Ok Waits) × (now ≡ record before { incoming = after })
LeavesReceive polled.OutOfMemory after before now result = (result ≡ Err refused.OutOfMemory) × (now ≡ record before { incoming = after })
LeavesReceive polled.Ended after before now result = Settles after before.inbox now result

-- The receive that waited, or a new one of an inbox that wants more.
abbrev pub HasReceive : {D : Type 0} → Submission D → D → D → Connection → Coming → Option Op → Type 0
HasReceive submits old mid before between (Some op) = (mid ≡ old) × (between ≡ before.incoming)
HasReceive submits old mid before between None = WantsMore before.inbox × BegunReceive submits old mid before.fd between

-- One that waits was polled.
pub record Receives {D : Type 0} (submits : Submission D) (polls : Polling D) (old new : D) (before now : Connection) (task : ℕ)
    (result : Result Progress SubmitFault) : Type 0 where
  pub mid : D
  pub between : Coming
  pub none : before.incoming.ended ≡ None
  pub has : HasReceive submits old mid before between before.incoming.op
  pub came_to : Polled
  pub after : Coming
  pub polls_it : PollsReceive polls mid new before.fd between after task came_to
  pub leaves : LeavesReceive came_to after before now result

-- None waited: one had ended whose bytes the inbox hadn't; or it wanted no more; or the submission was refused.
abbrev pub ReceivesNone : {D : Type 0} → Submission D → D → D → Connection → Connection → Result Progress SubmitFault → Type 0
ReceivesNone submits old new before now result =
    ((new ≡ old) × (before.incoming.op ≡ None) × Settles before.incoming before.inbox now result)
    ⊎ (((new ≡ old) × (now ≡ before) × (result ≡ Ok Idle) × (WantsMore before.inbox → ⊥))
    ⊎ ((why : SubmitFault) × (result ≡ Err why) × WantsMore before.inbox × RefusedReceive submits old new before.fd now.incoming why
    × (now ≡ before)))

-- What a receive did: one submission at most, and one poll at most.
abbrev pub ReceivesFor : {D : Type 0} → Submission D → Polling D → D → D → Connection → Connection → ℕ → Result Progress SubmitFault
    → Type 0
ReceivesFor submits polls old new before now task result =
    Receives submits polls old new before now task result ⊎ ReceivesNone submits old new before now result

-- A receive under a group that is canceled: none was submitted, and the inbox answers that once.
pub record ReceivesCanceled {D : Type 0} (joins : Joining D) (old new : D) (before now : Connection) (group : ℕ)
    (result : Result Progress SubmitFault) : Type 0 where
  pub wants : WantsMore before.inbox
  pub idle : before.incoming ≡ idle_coming
  pub canceled : CanceledReceive joins old new before.fd group now.incoming
  pub now_is : now ≡ record before { inbox = record before.inbox { fault = Some (Os CANCELED) } }
  pub moved : result ≡ Ok Moved

-- What a receive under a group did.
abbrev pub ReceivesUnder : {D : Type 0} → Joining D → Polling D → D → D → Connection → Connection → ℕ → ℕ → Result Progress SubmitFault
    → Type 0
ReceivesUnder joins polls old new before now group task result =
    ReceivesFor (under joins group) polls old new before now task result ⊎ ReceivesCanceled joins old new before now group result

-- Of a connection only what goes has changed.
abbrev pub OnlyGoes : Connection → Connection → Type 0
OnlyGoes before now = now ≡ record before { outbox = now.outbox; outgoing = now.outgoing }

-- What the next send is to have: the rest of the last one, or else bytes of the outbox, where it has some.
abbrev pub Prepares : Connection → Going → Outboxed → Type 0
Prepares before going outbox =
    ((has_bytes before.outgoing.unsent ≡ true) × (going ≡ before.outgoing) × (outbox ≡ before.outbox))
    ⊎ ((has_bytes before.outgoing.unsent ≡ false) × WantsSent before.outbox × Loads before.outgoing before.outbox going outbox)

-- A send was submitted, where no fault is to be answered first.
pub record BegunNext {D : Type 0} (submits : Submission D) (old mid : D) (before : Connection) (between : Going)
    (outbox : Outboxed) : Type 0
  where
    pub none : has_failed before.outbox.fault ≡ false
    pub going : Going
    pub prepares : Prepares before going outbox
    pub begun : BegunSend submits old mid before.fd going between

-- It was refused, for this reason: what it was to have is the next one's.
pub record RefusedNext {D : Type 0} (submits : Submission D) (old new : D) (before now : Connection) (why : SubmitFault) : Type 0 where
  pub idle : before.outgoing.op ≡ None
  pub none : has_failed before.outbox.fault ≡ false
  pub going : Going
  pub outbox : Outboxed
  pub prepares : Prepares before going outbox
  pub refused : RefusedSend submits old new before.fd going now.outgoing why
  pub now_is : now ≡ record before { outgoing = going; outbox = outbox }

-- Nothing is to be sent: a fault is to be answered first, or there are no bytes.
abbrev pub WantsNone : Connection → Type 0
WantsNone before =
    (has_failed before.outbox.fault ≡ true) ⊎ ((has_bytes before.outgoing.unsent ≡ false) × (WantsSent before.outbox → ⊥))

-- Whether the next send has bytes, and what the connection is then.
abbrev pub PreparesFor : Connection → Connection → Bool → Type 0
PreparesFor before now true = (has_failed before.outbox.fault ≡ false) × Prepares before now.outgoing now.outbox
PreparesFor before now false = (now ≡ before) × WantsNone before

-- The send that waited, or a new one.
abbrev pub HasSendOp : {D : Type 0} → Submission D → D → D → Connection → Going → Outboxed → Option Op → Type 0
HasSendOp submits old mid before between outbox (Some op) = (mid ≡ old) × (between ≡ before.outgoing) × (outbox ≡ before.outbox)
HasSendOp submits old mid before between outbox None = BegunNext submits old mid before between outbox

-- Whether a send waits, and what the connection is then; or its submission was refused.
abbrev pub HasSendFor : {D : Type 0} → Submission D → D → D → Connection → Connection → Result Bool SubmitFault → Type 0
HasSendFor submits old mid before now (Ok true) = HasSendOp submits old mid before now.outgoing now.outbox before.outgoing.op
HasSendFor submits old mid before now (Ok false) = (mid ≡ old) × (now ≡ before) × WantsNone before
HasSendFor submits old mid before now (Err why) = RefusedNext submits old mid before now why

-- A send under a group that is canceled: none was submitted, what it was to have is the next one's, and the outbox answers that once.
pub record CanceledNext {D : Type 0} (joins : Joining D) (old new : D) (before now : Connection) (group : ℕ) : Type 0 where
  pub idle : before.outgoing.op ≡ None
  pub none : has_failed before.outbox.fault ≡ false
  pub going : Going
  pub outbox : Outboxed
  pub prepares : Prepares before going outbox
  pub canceled : CanceledSend joins old new before.fd group going now.outgoing
  pub now_is : now ≡ record before {
    outgoing = going;
    outbox = record outbox { sending = has_bytes going.unsent; fault = Some (Os CANCELED) };
  }

-- Whether a send waits, where its submission is under a group.
abbrev pub HasSendUnder : {D : Type 0} → Joining D → D → D → Connection → Connection → ℕ → Result (Option Bool) SubmitFault → Type 0
HasSendUnder joins old mid before now group (Ok (Some waits)) = HasSendFor (under joins group) old mid before now (Ok waits)
HasSendUnder joins old mid before now group (Ok None) = CanceledNext joins old mid before now group
HasSendUnder joins old mid before now group (Err why) = HasSendFor (under joins group) old mid before now (Err why)

-- What a send leaves, by what its poll came to. The outbox knows whether some bytes are left, and the fault.
abbrev pub LeavesSend : Polled → Going → Outboxed → Option IoFault → Connection → Connection → Result Progress SubmitFault → Type 0
LeavesSend polled.Waits after outbox fault before now result =
    (result ≡ Ok Waits) × (now ≡ record before { outgoing = after; outbox = outbox })
LeavesSend polled.OutOfMemory after outbox fault before now result =
    (result ≡ Err refused.OutOfMemory) × (now ≡ record before { outgoing = after; outbox = outbox })
LeavesSend polled.Ended after outbox fault before now result = (result ≡ Ok Moved)
    × (now ≡ record before {
      outgoing = after;
      outbox = record outbox {
        sending = has_bytes after.unsent;
        fault = later_fault fault
            outbox.fault;
      };
    })

-- The send that waits was polled, and left this.
pub record PollsSendFor {D : Type 0} (ops : D → Ops Rented) (polls : Polling D) (mid new : D) (before now : Connection) (task : ℕ)
    (result : Result Progress SubmitFault) : Type 0 where
  pub came_to : Polled
  pub after : Going
  pub fault : Option IoFault
  pub polls_it : PollsSend ops polls mid new before.fd before.outgoing after task came_to fault
  pub leaves : LeavesSend came_to after before.outbox fault before now result

-- One that waited, or a new one, was polled.
pub record Sends {D : Type 0} (ops : D → Ops Rented) (submits : Submission D) (polls : Polling D) (old new : D) (before now : Connection)
    (task : ℕ) (result : Result Progress SubmitFault) : Type 0 where
  pub mid : D
  pub between : Connection
  pub same : OnlyGoes before between
  pub has : HasSendOp submits old mid before between.outgoing between.outbox before.outgoing.op
  pub polls_it : PollsSendFor ops polls mid new between now task result

-- None waited: a fault is to be answered first, or there is nothing to send; or the submission was refused.
abbrev pub SendsNone : {D : Type 0} → Submission D → D → D → Connection → Connection → Result Progress SubmitFault → Type 0
SendsNone submits old new before now result =
    ((new ≡ old) × (now ≡ before) × (result ≡ Ok Idle) × WantsNone before)
    ⊎ ((why : SubmitFault) × (result ≡ Err why) × RefusedNext submits old new before now why)

-- What a send did: one submission at most, and one poll at most.
abbrev pub SendsFor : {D : Type 0} → (D → Ops Rented) → Submission D → Polling D → D → D → Connection → Connection → ℕ →
    Result Progress SubmitFault → Type 0
SendsFor ops submits polls old new before now task result =
    Sends ops submits polls old new before now task result ⊎ SendsNone submits old new before now result

-- What a send under a group did.
abbrev pub SendsUnder : {D : Type 0} → (D → Ops Rented) → Joining D → Polling D → D → D → Connection → Connection → ℕ → ℕ →
    Result Progress SubmitFault → Type 0
SendsUnder ops joins polls old new before now group task result =
    SendsFor ops (under joins group) polls old new before now task result
    ⊎ (CanceledNext joins old new before now group × (result ≡ Ok Moved))

-- What waited was dropped: the receive, and then the send.
pub record EndDrops {D : Type 0} (drops : D → D → Op → Type 0) (old new : D) (conn : Connection) : Type 0 where
  pub mid : D
  pub receive : DropsFor drops old mid conn.incoming.op
  pub send : DropsFor drops mid new conn.outgoing.op

-- The handle was given up, and then what waited was dropped.
pub record Closes {D : Type 0} (closes : D → D → ℕ → Released → Type 0) (drops : D → D → Op → Type 0) (old new : D) (conn : Connection)
    : Type 0
  where
    pub mid : D
    pub answer : Released
    pub closed : closes old mid conn.fd answer
    pub ends : EndDrops drops mid new conn
