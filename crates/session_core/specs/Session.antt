-- When a session stands for a ledger, and what its steps answer. Cited by `Session` and by the top call.
use Rattle.std.specs.Prelude.{ℕ, ◌≡◌, ◌≤◌, List, [], length, map, Option, Some, None, Result, Ok, Err}
use Rattle.rent_buf.specs.Buf.{built}
use Rattle.rent_buf.specs.declared.fault.OutOfMemory.{OutOfMemory}
use Rattle.machine.specs.declared.ledger.Event.{Event}
use Rattle.machine.specs.declared.ledger.Event.TheVariants.{End, Close, Poll, Drop}
use Rattle.machine.specs.declared.ledger.Reply.{Reply}
use Rattle.ring_core.specs.Ring.{RingView}
use Rattle.machine.specs.Ledger.{Ledger}
use Rattle.machine.specs.Refusal.{cause}
use Rattle.machine.specs.Step.{step}
use Rattle.rent_buf.specs.declared.plain.Buf.{Buf}
use Rattle.driver_core.specs.declared.op.Op.{Op}
use Rattle.uring_driver.specs.declared.uring.IoUringDriver.{IoUringDriver}
use Rattle.uring_driver.specs.Holding.{user_count}
use Rattle.uring_driver.specs.Uring.{given_by, due_in, holding_in}
use Rattle.uring_driver.specs.Op.{ops_in}
use Rattle.uring_driver.specs.Stands.{Stands}
use Rattle.session_core.specs.declared.session.Session.{Session}
use Rattle.driver_core.specs.declared.tokens.Tokens.{Tokens}
use Rattle.driver_core.specs.Tokens.{by_number, cancellers_in, handles_in, AreHeld as AreHeldIn}

-- The tokens are those that the driver holds, each under its number.
abbrev pub AreHeld : List (Option Op) → IoUringDriver RingView Buf → Type 0
AreHeld tokens driver = AreHeldIn tokens (ops_in driver)

-- The driver of a session.
abbrev pub driver_in : Session → IoUringDriver RingView Buf
driver_in session = session.driver

-- The tokens of a session.
abbrev pub tokens_in : Session → Tokens
tokens_in session = session.tokens

-- The user holds each handle once at most.
abbrev pub AreSingle : IoUringDriver RingView Buf → Type 0
AreSingle driver = (h : ℕ) → user_count (holding_in driver) h ≤ 1

-- The cancellers and cancel handles are those of a ledger, each under its number and of its group there.
pub record HasGroups (kept : Tokens) (L : Ledger) : Type 0 where
  pub cancellers : cancellers_in kept ≡ map Some L.cancellers
  pub handles : handles_in kept ≡ L.cancel_handles

-- A driver and tokens stand for a ledger: the driver does, nothing is due in it, and its user holds each handle once at most; there is a
-- place for each operation that was given, with its token where the driver holds it; and cancellers and cancel handles are the ledger's.
pub record PartsStand (engine : IoUringDriver RingView Buf) (kept : Tokens) (L : Ledger) : Type 0 where
  pub driver : Stands (λ r. r) built engine L
  pub none_due : due_in engine ≡ []
  pub single : AreSingle engine
  pub numbered : length (by_number kept) ≡ given_by engine
  pub tokens : AreHeld (by_number kept) engine
  pub groups : HasGroups kept L

-- A driver and tokens are the parts of a session: they stand for some ledger.
pub record AreParts (engine : IoUringDriver RingView Buf) (kept : Tokens) : Type 0 where
  pub ledger : Ledger
  pub stand : PartsStand engine kept ledger

-- A session stands for a ledger where its parts do.
abbrev pub SessionStands : Session → Ledger → Type 0
SessionStands session L = PartsStand (driver_in session) (tokens_in session) L

-- A reply is the machine's to an event, and the session stands for the machine's next ledger.
pub record SessionAnswers (L : Ledger) (event : Event) (reply : Reply) (new : Session) : Type 0 where
  pub reply_is : (step L event).1 ≡ reply
  pub stands : SessionStands new (step L event).0

-- A step ran out of memory: the session stands for the same ledger, in which the machine names no cause to refuse the event.
pub record RanOut (L : Ledger) (event : Event) (new : Session) : Type 0 where
  pub stands : SessionStands new L
  pub unrefused : cause L event ≡ None

-- What a step answers: as the machine does, or that it ran out of memory.
abbrev pub StepsFor : Ledger → Event → Session → Result Reply OutOfMemory → Type 0
StepsFor L event new (Ok reply) = SessionAnswers L event reply new
StepsFor L event new (Err refused) = RanOut L event new

-- The event takes no memory: it is an end, a close, a poll or a drop.
abbrev pub TakesNoMemory : Event → Type 0
TakesNoMemory (End h) = Unit {0}
TakesNoMemory (Close h) = Unit {0}
TakesNoMemory (Poll n task) = Unit {0}
TakesNoMemory (Drop n) = Unit {0}
TakesNoMemory _ = ⊥
