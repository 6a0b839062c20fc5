-- What the replies to whole lists of events keep, as the events are spelled, at every capacity. Cited by `ReadySession::run`.
use Rattle.std.specs.Prelude.{ℕ, ◌≡◌, ◌↔◌, true, List, length, take, Some, None, slice_get}
use Rattle.rent_buf.specs.Held.{HeldBuf}
use Rattle.machine.specs.declared.request.TheConstants.{CANCELED}
use Rattle.machine.specs.declared.request.Outcome.{Outcome}
use Rattle.machine.specs.declared.ledger.Event.{Event}
use Rattle.machine.specs.declared.ledger.Event.TheVariants.{Poll}
use Rattle.machine.specs.declared.ledger.Reply.{Reply}
use Rattle.machine.specs.declared.ledger.Reply.TheVariants.{Pending, Handed}
use Rattle.machine.specs.Ledger.{Ledger, empty}
use Rattle.machine.specs.Refusal.{cause}
use Rattle.ready_driver.specs.Spelled.{asked, blocked, spelled_after}

-- There are as many replies as events.
abbrev pub OneReplyEach : List Event → List Reply → Type 0
OneReplyEach events replies = length replies ≡ length events

-- The ledger before the event at i: the one after the events before it, as they are spelled.
abbrev pub ledger_before : ℕ → List Event → ℕ → Ledger
ledger_before capacity events i = spelled_after (empty capacity) (take i events)

-- The event at i is a poll of operation n that isn't refused.
pub record IsPolled (capacity : ℕ) (events : List Event) (n i : ℕ) : Type 0 where
  pub task : ℕ
  pub there : slice_get events i ≡ Some (Poll n task)
  pub unrefused : cause (ledger_before capacity events i) (Poll n task) ≡ None

-- An unrefused poll is Pending exactly when its operation is blocked: its cancel isn't asked for, and its call would block.
abbrev pub PendingWhenBlocked : ℕ → List Event → List Reply → Type 0
PendingWhenBlocked capacity events replies =
    (n i : ℕ) → IsPolled capacity events n i →
    (slice_get replies i ≡ Some Pending) ↔ (blocked (ledger_before capacity events i) n ≡ true)

-- An unrefused poll ends with the error of a cancel only when the cancel of its own operation was asked for.
abbrev pub CanceledWhenAsked : ℕ → List Event → List Reply → Type 0
CanceledWhenAsked capacity events replies =
    (n i : ℕ) (buffer : HeldBuf) → IsPolled capacity events n i →
    slice_get replies i ≡ Some (Handed (Outcome.Fail CANCELED) buffer) → asked (ledger_before capacity events i) n ≡ true
