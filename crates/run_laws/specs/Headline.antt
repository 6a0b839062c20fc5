-- The laws of whole runs: what the replies to any events keep, at every capacity. `headline` states them, and a session's run cites them.
use Rattle.std.specs.Prelude.{ℕ, ◌≡◌, ◌<◌, ◌≤◌, ◌⊎◌, ◌↔◌, Bool, true, false, List, length, take, count_by, Some, slice_get}
use Rattle.rent_buf.specs.Held.{HeldBuf}
use Rattle.machine.specs.declared.request.Told.{Told}
use Rattle.machine.specs.declared.request.Told.TheVariants.{Fail}
use Rattle.machine.specs.declared.request.Outcome.{Outcome}
use Rattle.machine.specs.declared.ledger.Event.{Event}
use Rattle.machine.specs.declared.ledger.Event.TheVariants.{Poll}
use Rattle.machine.specs.declared.ledger.Refusal.{Refusal}
use Rattle.machine.specs.declared.ledger.Refusal.TheVariants.{NoOp}
use Rattle.machine.specs.declared.ledger.Reply.{Reply}
use Rattle.machine.specs.declared.ledger.Reply.TheVariants.{Submitted, Pending, Refused}
use Rattle.machine.specs.declared.request.TheConstants.{CANCELED}
use Rattle.machine.specs.Ledger.{Operation, Gone, Item, Op}
use Rattle.machine.specs.Refusal.{cause}
use Rattle.machine.specs.Run.{ledger_before, IsGiven, IsExecuted, IsReaped, IsOwn}
use Rattle.run_laws.specs.Moments.{IsPolled, IsReapedBefore, HandsOwn, IsHanded, IsDropped, IsAbout, IsGivenBefore, IsHandedBefore}
use Rattle.run_laws.specs.Moments.{IsDroppedBefore, NamesReaped, IsCanceledBefore}

-- There are as many replies as events.
abbrev pub OneReplyEach : List Event → List Reply → Type 0
OneReplyEach events replies = length replies ≡ length events

-- The machine names this cause for the event at i.
pub record HasCause (capacity : ℕ) (events : List Event) (i : ℕ) (refusal : Refusal) : Type 0 where
  pub event : Event
  pub there : slice_get events i ≡ Some event
  pub named : cause (ledger_before capacity events i) event ≡ Some refusal

-- A reply is Refused exactly where the machine names a cause, and has that name.
abbrev pub RefusedExactly : ℕ → List Event → List Reply → Type 0
RefusedExactly capacity events replies =
    (i : ℕ) (refusal : Refusal) → (slice_get replies i ≡ Some (Refused refusal)) ↔ HasCause capacity events i refusal

-- An unrefused Poll is answered Pending exactly where no event before it reaps its operation.
abbrev pub PendingUntilReaped : ℕ → List Event → List Reply → Type 0
PendingUntilReaped capacity events replies =
    (n i : ℕ) → IsPolled capacity events n i → (slice_get replies i ≡ Some Pending) ↔ (IsReapedBefore capacity events n i → ⊥)

-- At an unrefused Poll its operation was reaped before, or wasn't.
abbrev pub ReapedOrNot : ℕ → List Event → Type 0
ReapedOrNot capacity events =
    (n i : ℕ) → IsPolled capacity events n i → IsReapedBefore capacity events n i ⊎ (IsReapedBefore capacity events n i → ⊥)

-- An unrefused Poll that isn't answered Pending hands back its operation's own outcome and own buffer.
abbrev pub HandsBackOwn : ℕ → List Event → List Reply → Type 0
HandsBackOwn capacity events replies =
    (n i : ℕ) → IsPolled capacity events n i → (slice_get replies i ≡ Some Pending → ⊥) → HandsOwn capacity events replies n i

-- After an operation was handed over, each Poll, Drop and Cancel of it is refused: it isn't there.
abbrev pub HandedOnce : List Event → List Reply → Type 0
HandedOnce events replies =
    (n i j : ℕ) → IsHanded events replies n i → i < j → IsAbout events n j → slice_get replies j ≡ Some (Refused NoOp)

-- After an operation was dropped, each Poll, Drop and Cancel of it is refused: it isn't its user's.
abbrev pub DroppedOnce : List Event → List Reply → Type 0
DroppedOnce events replies =
    (n i j : ℕ) → IsDropped events replies n i → i < j → IsAbout events n j → slice_get replies j ≡ Some (Refused NoOp)

-- A Poll, a Drop or a Cancel is refused as NoOp exactly where its operation wasn't given before, or was handed over or dropped before.
abbrev pub RefusedWhereGone : ℕ → List Event → List Reply → Type 0
RefusedWhereGone capacity events replies =
    (n i : ℕ) → IsAbout events n i →
    (slice_get replies i ≡ Some (Refused NoOp)) ↔ ((IsGivenBefore capacity events n i → ⊥) ⊎ IsHandedBefore events replies n i
    ⊎ IsDroppedBefore events replies n i)

-- The first Poll of an operation after its reap, where it wasn't dropped before, hands back its own outcome and own buffer.
abbrev pub FirstPollHands : ℕ → List Event → List Reply → Type 0
FirstPollHands capacity events replies =
    (n i j task : ℕ) → IsReaped capacity events n i → i < j → slice_get events j ≡ Some (Poll n task) →
    ((k later : ℕ) → i < k → k < j → slice_get events k ≡ Some (Poll n later) → ⊥) →
    (IsDroppedBefore events replies n j → ⊥) →
    HandsOwn capacity events replies n j

-- A Turn names exactly the operations that it reaps, also those that were dropped.
abbrev pub ReapNames : ℕ → List Event → List Reply → Type 0
ReapNames capacity events replies = (n i : ℕ) → IsReaped capacity events n i ↔ NamesReaped replies n i

-- An operation is gone only where an event before reaps it: until then the ledger keeps it, and with it its buffer, also where it
-- was dropped.
abbrev pub KeptUntilReaped : ℕ → List Event → Type 0
KeptUntilReaped capacity events =
    (n i : ℕ) (operation : Operation) → i ≤ length events → slice_get (ledger_before capacity events i).ops n ≡ Some operation →
    operation.place ≡ Gone →
    IsReapedBefore capacity events n i

-- An operation that is executed ends with the error of a cancel only where its own cancel was asked for, or it was dropped, or its group
-- was canceled, before.
abbrev pub CanceledWhereAsked : ℕ → List Event → List Reply → Type 0
CanceledWhereAsked capacity events replies =
    (n i : ℕ) → IsExecuted capacity events n i (Fail CANCELED) (Op n) → IsCanceledBefore events replies n i

-- An operation that ends by the execution of another item ends as that one, an operation, fails.
abbrev pub BreaksByFailure : ℕ → List Event → Type 0
BreaksByFailure capacity events =
    (n i : ℕ) (told : Told) (item : Item) → IsExecuted capacity events n i told item →
    (item ≡ Op n) ⊎ ((m error : ℕ) × (item ≡ Op m) × (told ≡ Fail error))

-- At most one event gives n.
abbrev pub GivenOnce : ℕ → List Event → Type 0
GivenOnce capacity events = (n i j : ℕ) → IsGiven capacity events n i → IsGiven capacity events n j → i ≡ j

-- At most one event executes n.
abbrev pub ExecutedOnce : ℕ → List Event → Type 0
ExecutedOnce capacity events =
    (n i j : ℕ) (told_first told_second : Told) (first second : Item) → IsExecuted capacity events n i told_first first →
    IsExecuted capacity events n j told_second second → i ≡ j

-- At most one event reaps n.
abbrev pub ReapedOnce : ℕ → List Event → Type 0
ReapedOnce capacity events = (n i j : ℕ) → IsReaped capacity events n i → IsReaped capacity events n j → i ≡ j

-- An operation has one own outcome and one own buffer.
abbrev pub OneOwn : ℕ → List Event → Type 0
OneOwn capacity events =
    (n : ℕ) (first_outcome second_outcome : Outcome) (first_buffer second_buffer : HeldBuf) →
    IsOwn capacity events n first_outcome first_buffer → IsOwn capacity events n second_outcome second_buffer →
    (first_outcome ≡ second_outcome) × (first_buffer ≡ second_buffer)

-- A reply gives a number.
abbrev pub gives_number : Reply → Bool
gives_number (Submitted n) = true
gives_number _ = false

-- Numbers are given in order, from 0: a reply's is the count of the replies before it that gave one.
abbrev pub GivenInOrder : List Reply → Type 0
GivenInOrder replies = (n i : ℕ) → slice_get replies i ≡ Some (Submitted n) → n ≡ count_by gives_number (take i replies)
