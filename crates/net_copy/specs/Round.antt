-- A round of a copy from one connection to another, over a readiness driver, and the bytes on their way.
use Rattle.std.specs.Prelude.{ℕ, ◌≡◌, ◌<◌, IsTrue, true, List, [], ◌∷◌, ◌++◌, Option, None, Some, Result}
use Rattle.rent_buf.specs.Rent.{Rented}
use Rattle.rent_io.specs.declared.poll.Step.{Step}
use Rattle.stream_util.specs.declared.copy.Copied.{Copied}
use Rattle.stream_util.specs.Copy.{Copying, Ends, Runs}
use Rattle.driver_core.specs.declared.operations.TheConstants.{MOST_GIVEN}
use Rattle.driver_core.specs.declared.op.Op.{Op}
use Rattle.driver_core.specs.declared.op.SubmitFault.{SubmitFault}
use Rattle.driver_core.specs.Ops.{Ops}
use Rattle.driver_core.specs.Requests.{request_at}
use Rattle.ready_driver.specs.Io.{IoView}
use Rattle.ready_driver.specs.LegacyState.{LegacyState, holds_all, ops_in}
use Rattle.net_stream.specs.declared.connection.Connection.{Connection}
use Rattle.net_stream.specs.declared.progress.Progress.{Progress}
use Rattle.net_stream.specs.Connection.{ReceivesFor, SendsFor}
use Rattle.net_stream.specs.Drives.{HoldsOp, IsOther, Polling, Submission}
use Rattle.net_stream.specs.Inbox.{Inboxed, inbox_reader}
use Rattle.net_stream.specs.Outbox.{Outboxed, outbox_writer}
use Rattle.net_stream.specs.Told.{sent_at, unread_in, unsent_in, waiting_at}

-- All bytes on their way, the first ones first: those that were sent to the second handle, those that are to go there, those that the copy
-- holds, those that came and weren't read, and those that wait at the first handle.
abbrev pub line_of : {I : Type 0} → (I → IoView) → LegacyState I Rented → Connection → Connection → List ℕ → List ℕ
line_of view driver from to held =
    sent_at view driver to.fd ++ (unsent_in (ops_in driver) to ++ (held ++ (unread_in from ++ waiting_at view driver from.fd)))

-- An operation of a handle may be submitted: its user holds that, and the driver has numbers left.
abbrev pub MaySubmit : {I : Type 0} → LegacyState I Rented → ℕ → Type 0
MaySubmit driver fd = IsTrue (holds_all driver.handling.table (fd ∷ [])) × (driver.given < MOST_GIVEN)

-- A call was made, and did this; or it might not be made, and nothing changed.
abbrev pub MadeIf : {R : Type 0} → Type 0 → (R → Type 0) → Type 0 → Option R → Type 0
MadeIf may does same (Some result) = does result
MadeIf may does same None = (may → ⊥) × same

-- An inbox and an outbox as the ends of a copy.
abbrev pub ends_of : Inboxed → Outboxed → Ends
ends_of inbox outbox = record { reader = inbox_reader inbox; writer = outbox_writer outbox }

-- What a round did: a receive of the first connection, so many turns of the copy at most, between its inbox and the outbox of the second,
-- and a send of that.
pub record Rounds {I : Type 0} (submits : Submission (LegacyState I Rented)) (polls : Polling (LegacyState I Rented))
    (old new : LegacyState I Rented) (from to from_now to_now : Connection) (copy : Copying) (task turns : ℕ)
    (received : Option (Result Progress SubmitFault)) (copied : Step Copying Copied) (sent : Option (Result Progress SubmitFault))
    : Type 0
  where
    pub mid : LegacyState I Rented
    pub came : Connection
    pub receives : MadeIf (MaySubmit old from.fd) (ReceivesFor submits polls old mid from came task) ((mid ≡ old) × (came ≡ from)) received
    pub written : Outboxed
    pub runs : Runs true true task turns (ends_of came.inbox to.outbox) (ends_of from_now.inbox written) copy copied
    pub sends : MadeIf (MaySubmit mid to.fd) (SendsFor ops_in submits polls mid new (record to { outbox = written }) to_now task)
        ((new ≡ mid) × (to_now ≡ record to { outbox = written })) sent

-- Neither of two connections waits for this operation.
abbrev pub IsOtherOf : Connection → Connection → Op → Type 0
IsOtherOf from to other = IsOther from.incoming.op other × IsOther from.outgoing.op other × IsOther to.incoming.op other
    × IsOther to.outgoing.op other

-- Each operation that the driver held and that neither connection waited for it holds, with its request, and neither waits for it now.
abbrev pub KeepsBesideBoth : Ops Rented → Connection → Connection → Ops Rented → Connection → Connection → Type 0
KeepsBesideBoth old from to new from_now to_now = (other : Op) → HoldsOp old other → IsOtherOf from to other →
    HoldsOp new other × (request_at new other ≡ request_at old other) × IsOtherOf from_now to_now other
