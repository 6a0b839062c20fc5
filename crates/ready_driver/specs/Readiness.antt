-- What a readiness driver over handles in memory is to the machine: the laws that `readiness` states.
use Rattle.std.specs.Prelude.{ℕ, ◌≡◌, ◌↔◌, Bool, true, List, [], ◌∷◌, length, Option, Some, None, slice_get}
use Rattle.rent_buf.specs.Held.{HeldBuf}
use Rattle.machine.specs.declared.request.TheConstants.{CANCELED}
use Rattle.machine.specs.declared.request.Outcome.{Outcome}
use Rattle.machine.specs.declared.ledger.Event.{Event}
use Rattle.machine.specs.declared.ledger.Event.TheVariants.{Submit, Poll, Turn, Exec}
use Rattle.machine.specs.declared.ledger.Reply.TheVariants.{Pending, Handed}
use Rattle.machine.specs.Ledger.{Ledger, Operation, Place, Gone, empty, user_holds, members, holders}
use Rattle.machine.specs.Refusal.{cause}
use Rattle.ready_driver.specs.Spelled.{asked, blocked, spelled, spelled_reply, spelled_replies, spelled_after}
use Rattle.ready_driver.specs.Legacy.{LegacyOp, Legacy, idle, slot_at, holds_at, members_at, holders_at}
use Rattle.ready_driver.specs.LegacyStep.{legacy_after, legacy_replies}

-- An event that a readiness driver answers: any but Turn, Exec and a linked Submit.
abbrev pub IsDriven : Event → Type 0
IsDriven Turn = ⊥
IsDriven (Exec place told) = ⊥
IsDriven (Submit request under true) = ⊥
IsDriven event = Unit {0}

-- Events that a readiness driver answers.
abbrev pub AreDriven : List Event → Type 0
AreDriven [] = Unit {0}
AreDriven (event ∷ events) = IsDriven event × AreDriven events

-- The slot of an operation at a place: none where it is gone.
abbrev pub slot_by : Place → LegacyOp → Option LegacyOp
slot_by Gone op = None
slot_by _ op = Some op

-- The slot of an operation whose cancel is asked for, or isn't.
abbrev pub slot_of : Bool → Operation → Option LegacyOp
slot_of is_asked operation =
    slot_by operation.place (record { request = operation.request; group = operation.group; asked = is_asked })

-- The same of an operation that was looked up.
abbrev pub slot_of_op : Bool → Option Operation → Option LegacyOp
slot_of_op is_asked None = None
slot_of_op is_asked (Some operation) = slot_of is_asked operation

-- A driver shows a ledger: it holds just the operations that aren't gone, each with its request, its group, and whether its cancel is asked
-- for; the handles, their users and holders, and the groups and their members are the same. Nothing is done that isn't reaped.
pub record Shows (D : Legacy) (L : Ledger) : Type 0 where
  pub count : length D.slots ≡ length L.ops
  pub slots : (n : ℕ) → slot_at D n ≡ slot_of_op (asked L n) (slice_get L.ops n)
  pub world : D.world ≡ L.world
  pub users : (h : ℕ) → holds_at D h ≡ user_holds L h
  pub holders : (h : ℕ) → holders_at D h ≡ holders L h
  pub cancellers : D.cancellers ≡ L.cancellers
  pub cancel_handles : D.cancel_handles ≡ L.cancel_handles
  pub groups : D.groups ≡ L.groups
  pub members : (g : ℕ) → members_at D g ≡ members L g
  pub done : L.done ≡ []

-- The driver answers each event as the machine answers it spelled, and shows the ledger after each; at every capacity.
pub record FollowsMachine (capacity : ℕ) (events : List Event) : Type 0 where
  pub replies : legacy_replies idle events ≡ spelled_replies (empty capacity) events
  pub shows : Shows (legacy_after idle events) (spelled_after (empty capacity) events)

-- So it is for all events that it answers.
abbrev pub DriverFollows : Type 0
DriverFollows = (capacity : ℕ) (events : List Event) → AreDriven events → FollowsMachine capacity events

-- An unrefused poll after spelled events is Pending exactly where its operation is blocked.
abbrev pub PendingBlocked : Type 0
PendingBlocked =
    (capacity : ℕ) (events : List Event) (n task : ℕ) → AreDriven events →
    cause (spelled_after (empty capacity) events) (Poll n task) ≡ None →
    (spelled_reply (spelled_after (empty capacity) events) (spelled (spelled_after (empty capacity) events) (Poll n task)) ≡ Pending)
    ↔ (blocked (spelled_after (empty capacity) events) n ≡ true)

-- It ends with the error of a cancel only where the cancel of its own operation was asked for.
abbrev pub CanceledAsked : Type 0
CanceledAsked =
    (capacity : ℕ) (events : List Event) (n task : ℕ) (buffer : HeldBuf) → AreDriven events →
    cause (spelled_after (empty capacity) events) (Poll n task) ≡ None →
    spelled_reply (spelled_after (empty capacity) events) (spelled (spelled_after (empty capacity) events) (Poll n task))
    ≡ Handed (Outcome.Fail CANCELED) buffer →
    asked (spelled_after (empty capacity) events) n ≡ true
