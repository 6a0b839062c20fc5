-- When a readiness session stands for a ledger, and what its steps answer. Cited by `ReadySession`.
use Rattle.std.specs.Prelude.{ℕ, ◌≡◌, ◌<◌, ◌≤◌, Bool, List, length, map, Some, None, is_some, Result, Ok, Err, slice_get}
use Rattle.rent_buf.specs.Buf.{built}
use Rattle.rent_buf.specs.declared.fault.OutOfMemory.{OutOfMemory}
use Rattle.rent_buf.specs.declared.plain.Buf.{Buf}
use Rattle.handle_core.specs.Table.{Table, holders_at}
use Rattle.machine.specs.declared.ledger.Event.{Event}
use Rattle.machine.specs.declared.ledger.Event.TheVariants.{End, Close, Drop}
use Rattle.machine.specs.declared.ledger.Reply.{Reply}
use Rattle.machine.specs.Ledger.{Ledger, empty}
use Rattle.machine.specs.Refusal.{cause}
use Rattle.driver_core.specs.declared.tokens.Tokens.{Tokens}
use Rattle.driver_core.specs.Tokens.{by_number, cancellers_in, handles_in, AreHeld}
use Rattle.ready_driver.specs.Legacy.{Legacy, idle, slot_at}
use Rattle.ready_driver.specs.LegacyStands.{LegacyStands}
use Rattle.ready_driver.specs.LegacyState.{LegacyState, ops_in}
use Rattle.ready_driver.specs.LegacyStep.{legacy_cause, legacy_step, legacy_after}
use Rattle.ready_driver.specs.MemIo.{Memory, memory_view}
use Rattle.ready_driver.specs.Readiness.{AreDriven}
use Rattle.ready_driver.specs.Spelled.{spelled, spelled_reply, spelled_after, ledger_behind}
use Rattle.ready_run.specs.declared.inner.Inner.{Inner}

-- The driver of a session.
abbrev pub driver_in : Inner → LegacyState Memory Buf
driver_in session = session.driver

-- The tokens of a session.
abbrev pub tokens_in : Inner → Tokens
tokens_in session = session.tokens

-- The user holds each handle once at most.
abbrev pub AreSingle : Table → Type 0
AreSingle table = (h : ℕ) → (holders_at table h).user ≤ 1

-- Each of these numbers is below a count.
abbrev pub AreBelow : List ℕ → ℕ → Type 0
AreBelow numbers count = (place number : ℕ) → slice_get numbers place ≡ Some number → number < count

-- The cancellers and cancel handles are those of a driver as plain data, each under its number and of its group there, which was made.
pub record HasGroups (kept : Tokens) (D : Legacy) : Type 0 where
  pub cancellers : cancellers_in kept ≡ map Some D.cancellers
  pub handles : handles_in kept ≡ D.cancel_handles
  pub cancellers_made : AreBelow D.cancellers (length D.groups)
  pub handles_made : AreBelow D.cancel_handles (length D.groups)

-- A session is a driver as plain data: its driver is, and its user holds each handle once at most; there is a place for each operation that
-- was submitted, with its token where the driver holds it; and the cancellers and cancel handles are those of that driver.
pub record SessionStands (session : Inner) (D : Legacy) : Type 0 where
  pub driver : LegacyStands memory_view built (driver_in session) D
  pub single : AreSingle (driver_in session).handling.table
  pub numbered : length (by_number (tokens_in session)) ≡ (driver_in session).given
  pub tokens : AreHeld (by_number (tokens_in session)) (ops_in (driver_in session))
  pub groups : HasGroups (tokens_in session) D

-- These parts belong together: there is a driver as plain data that a session of them is.
pub record AreParts (session : Inner) : Type 0 where
  pub plain : Legacy
  pub stands : SessionStands session plain

-- A reply is that of the driver as plain data to an event, and the session is the next one.
pub record SessionAnswers (D : Legacy) (event : Event) (reply : Reply) (new : Inner) : Type 0 where
  pub reply_is : (legacy_step D event).1 ≡ reply
  pub stands : SessionStands new (legacy_step D event).0

-- Memory ran out at an event: the session is the same driver as plain data, which doesn't refuse the event.
pub record RanOut (D : Legacy) (event : Event) (new : Inner) : Type 0 where
  pub stands : SessionStands new D
  pub unrefused : legacy_cause D event ≡ None

-- What a step answers: as the driver as plain data does, or that memory ran out.
abbrev pub StepsFor : Legacy → Event → Inner → Result Reply OutOfMemory → Type 0
StepsFor D event new (Ok reply) = SessionAnswers D event reply new
StepsFor D event new (Err refused) = RanOut D event new

-- A session stands for a ledger: some events lead to it, as they are spelled, from the empty ledger of a capacity, and the session is the
-- driver as plain data that answered these events.
pub record ReadyStands (session : Inner) (L : Ledger) : Type 0 where
  pub capacity : ℕ
  pub events : List Event
  pub driven : AreDriven events
  pub reached : L ≡ spelled_after (empty capacity) events
  pub stands : SessionStands session (legacy_after idle events)

-- A reply is the machine's to an event as it is spelled, and the session stands for the ledger behind it.
pub record ReadyAnswers (L : Ledger) (event : Event) (reply : Reply) (new : Inner) : Type 0 where
  pub reply_is : spelled_reply L (spelled L event) ≡ reply
  pub stands : ReadyStands new (ledger_behind L event)

-- Memory ran out at an event: the session stands for the same ledger, in which the machine doesn't refuse the event.
pub record ReadyRanOut (L : Ledger) (event : Event) (new : Inner) : Type 0 where
  pub stands : ReadyStands new L
  pub unrefused : cause L event ≡ None

-- What a step answers: as the machine does, or that memory ran out.
abbrev pub ReadySteps : Ledger → Event → Inner → Result Reply OutOfMemory → Type 0
ReadySteps L event new (Ok reply) = ReadyAnswers L event reply new
ReadySteps L event new (Err refused) = ReadyRanOut L event new

-- An operation isn't gone in a driver as plain data.
abbrev pub is_live : Legacy → ℕ → Bool
is_live D n = is_some (slot_at D n)

-- The event takes no memory: it is an end, a close or a drop.
abbrev pub TakesNoMemory : Event → Type 0
TakesNoMemory (End h) = Unit {0}
TakesNoMemory (Close h) = Unit {0}
TakesNoMemory (Drop n) = Unit {0}
TakesNoMemory _ = ⊥
