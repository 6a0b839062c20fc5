-- What an event of a run and its reply are to an operation, and what came before an event. The laws of whole runs are said in these words.
use Rattle.std.specs.Prelude.{ℕ, ◌≡◌, ◌<◌, ◌⊎◌, true, List, Option, Some, None, slice_get}
use Rattle.rent_buf.specs.Held.{HeldBuf}
use Rattle.machine.specs.declared.request.Outcome.{Outcome}
use Rattle.machine.specs.declared.ledger.Event.{Event}
use Rattle.machine.specs.declared.ledger.Event.TheVariants.{Poll, Drop, Cancel}
use Rattle.machine.specs.declared.ledger.Reply.{Reply}
use Rattle.machine.specs.declared.ledger.Reply.TheVariants.{Handed, Dropped, Asked, Cancels, Turned}
use Rattle.machine.specs.Lists.{has_number}
use Rattle.machine.specs.Refusal.{cause}
use Rattle.machine.specs.Run.{ledger_before, IsGiven, IsReaped, IsOwn}

-- The event at i is a Poll of n that isn't refused.
pub record IsPolled (capacity : ℕ) (events : List Event) (n i : ℕ) : Type 0 where
  pub task : ℕ
  pub event : slice_get events i ≡ Some (Poll n task)
  pub unrefused : cause (ledger_before capacity events i) (Poll n task) ≡ None

-- An event before the event at i reaps n.
pub record IsReapedBefore (capacity : ℕ) (events : List Event) (n i : ℕ) : Type 0 where
  pub reap : ℕ
  pub before : reap < i
  pub reaped : IsReaped capacity events n reap

-- The reply at i hands back the own outcome and the own buffer of n, which was given, then executed, before the event at i.
pub record HandsOwn (capacity : ℕ) (events : List Event) (replies : List Reply) (n i : ℕ) : Type 0 where
  pub outcome : Outcome
  pub buffer : HeldBuf
  pub reply : slice_get replies i ≡ Some (Handed outcome buffer)
  pub own : IsOwn capacity events n outcome buffer
  pub given_first : own.given < own.exec
  pub executed_before : own.exec < i

-- The event at i is a Poll of n, and the reply hands n over.
pub record IsHanded (events : List Event) (replies : List Reply) (n i : ℕ) : Type 0 where
  pub task : ℕ
  pub outcome : Outcome
  pub buffer : HeldBuf
  pub event : slice_get events i ≡ Some (Poll n task)
  pub reply : slice_get replies i ≡ Some (Handed outcome buffer)

-- The event at i is a Drop of n, and isn't refused.
pub record IsDropped (events : List Event) (replies : List Reply) (n i : ℕ) : Type 0 where
  pub event : slice_get events i ≡ Some (Drop n)
  pub reply : slice_get replies i ≡ Some Dropped

-- The event at i is a Cancel of n, and isn't refused.
pub record IsAsked (events : List Event) (replies : List Reply) (n i : ℕ) : Type 0 where
  pub event : slice_get events i ≡ Some (Cancel n)
  pub reply : slice_get replies i ≡ Some Asked

-- The operation that an event is about: a Poll, a Drop or a Cancel of it.
abbrev pub operation_of : Event → Option ℕ
operation_of (Poll n task) = Some n
operation_of (Drop n) = Some n
operation_of (Cancel n) = Some n
operation_of _ = None

-- The event at i is about n.
pub record IsAbout (events : List Event) (n i : ℕ) : Type 0 where
  pub event : Event
  pub there : slice_get events i ≡ Some event
  pub about : operation_of event ≡ Some n

-- An event before the event at i gave n.
pub record IsGivenBefore (capacity : ℕ) (events : List Event) (n i : ℕ) : Type 0 where
  pub given : ℕ
  pub before : given < i
  pub is_given : IsGiven capacity events n given

-- The reply to an event before the event at i handed n over.
pub record IsHandedBefore (events : List Event) (replies : List Reply) (n i : ℕ) : Type 0 where
  pub hand : ℕ
  pub before : hand < i
  pub is_handed : IsHanded events replies n hand

-- An event before the event at i dropped n.
pub record IsDroppedBefore (events : List Event) (replies : List Reply) (n i : ℕ) : Type 0 where
  pub drop : ℕ
  pub before : drop < i
  pub is_dropped : IsDropped events replies n drop

-- The reply at i is that of a Turn, and names n at a place of its first list.
pub record NamesReaped (replies : List Reply) (n i : ℕ) : Type 0 where
  pub reaped : List ℕ
  pub closed : List ℕ
  pub woken : List ℕ
  pub place : ℕ
  pub reply : slice_get replies i ≡ Some (Turned reaped closed woken)
  pub named : slice_get reaped place ≡ Some n

-- The reply at i is that of a CancelAll, and names n.
pub record NamesCanceled (replies : List Reply) (n i : ℕ) : Type 0 where
  pub numbers : List ℕ
  pub reply : slice_get replies i ≡ Some (Cancels numbers)
  pub named : has_number n numbers ≡ true

-- A Cancel of n or a Drop of n came before the event at i, and wasn't refused, or the reply to a CancelAll before it named n.
pub record IsCanceledBefore (events : List Event) (replies : List Reply) (n i : ℕ) : Type 0 where
  pub ask : ℕ
  pub before : ask < i
  pub asked : IsAsked events replies n ask ⊎ IsDropped events replies n ask ⊎ NamesCanceled replies n ask
