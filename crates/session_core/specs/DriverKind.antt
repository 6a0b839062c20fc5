-- The drivers over which commands run events: which lines they take, what they reply, and when a session over one of them is kept.
use Rattle.std.specs.Prelude.{ℕ, ◌≡◌, Bool, true, false, List, Option, Some}
use Rattle.machine.specs.declared.ledger.Event.{Event}
use Rattle.machine.specs.declared.ledger.Reply.{Reply}
use Rattle.machine.specs.Ledger.{Ledger}
use Rattle.machine.specs.Step.{step}
use Rattle.machine.specs.Run.{after, replies}
use Rattle.ready_driver.specs.Readiness.{IsDriven}
use Rattle.ready_driver.specs.Spelled.{spelled, spelled_reply, spelled_replies, spelled_after, ledger_behind}
use Rattle.ready_run.specs.ReadySession.{ReadyStands}
use Rattle.ready_run.specs.declared.inner.Inner.{Inner as ReadySession}
use Rattle.event_text.specs.TextEvent.{stands_for}
use Rattle.session_core.specs.declared.session.Session.{Session}
use Rattle.session_core.specs.declared.top.Kept.{Kept}
use Rattle.session_core.specs.declared.top.Kept.TheVariants.{Run, Ready}
use Rattle.session_core.specs.Session.{SessionStands}

-- The driver that events run on.
pub data DriverKind : Type 0 where
  completion : DriverKind
  readiness : DriverKind

-- The readiness driver takes external events alone: no turns, no executions and no linked submissions.
abbrev pub is_external : DriverKind → Bool
is_external completion = false
is_external readiness = true

-- Which event a line stands for.
abbrev pub StandsOn : DriverKind → List ℕ → Event → Type 0
StandsOn driver = stands_for (is_external driver)

-- An event that the driver takes.
abbrev pub Takes : DriverKind → Event → Type 0
Takes completion event = Unit {0}
Takes readiness event = IsDriven event

-- The reply to an event: the machine's; or its reply to the event as it is spelled.
abbrev pub reply_on : DriverKind → Ledger → Event → Reply
reply_on completion L event = (step L event).1
reply_on readiness L event = spelled_reply L (spelled L event)

-- The ledger behind an event.
abbrev pub next_on : DriverKind → Ledger → Event → Ledger
next_on completion L event = (step L event).0
next_on readiness L event = ledger_behind L event

-- The replies to events.
abbrev pub replies_on : DriverKind → Ledger → List Event → List Reply
replies_on completion = replies
replies_on readiness = spelled_replies

-- The ledger behind events.
abbrev pub after_on : DriverKind → Ledger → List Event → Ledger
after_on completion = after
after_on readiness = spelled_after

-- A reply is that to an event, and the session stands for the ledger behind it. When a session stands for a ledger is given.
pub record AnswersOn {S : Type 0} (standing : S → Ledger → Type 0) (driver : DriverKind) (L : Ledger) (event : Event) (reply : Reply)
    (new : S) : Type 0 where
  pub reply_is : reply_on driver L event ≡ reply
  pub stands : standing new (next_on driver L event)

-- A session over the completion driver is kept that stands for a ledger.
pub record KeepsRun (kept : Option Kept) (L : Ledger) : Type 0 where
  pub session : Session
  pub kept_is : kept ≡ Some (Run session)
  pub stands : SessionStands session L

-- So is one over the readiness driver.
pub record KeepsReady (kept : Option Kept) (L : Ledger) : Type 0 where
  pub session : ReadySession
  pub kept_is : kept ≡ Some (Ready session)
  pub stands : ReadyStands session L
