-- The laws of cancellers: what the replies to any events tell of the operations that are canceled together, at every capacity.
-- `headline` states them.
use Rattle.std.specs.Prelude.{ℕ, ◌≡◌, ◌<◌, ◌↔◌, Bool, true, false, List, take, count_by, Some, None, slice_get}
use Rattle.rent_buf.specs.Buffer.{Buffer}
use Rattle.rent_buf.specs.Parts.{Parts}
use Rattle.rent_buf.specs.Held.{HeldBuf}
use Rattle.machine.specs.declared.request.Request.{Request}
use Rattle.machine.specs.declared.ledger.Event.{Event}
use Rattle.machine.specs.declared.ledger.Event.TheVariants.{Submit, NewHandle, CancelAll}
use Rattle.machine.specs.declared.ledger.Refusal.TheVariants.{NoCanceller}
use Rattle.machine.specs.declared.ledger.Reply.{Reply}
use Rattle.machine.specs.declared.ledger.Reply.TheVariants.{CanceledAtOnce, Canceller, CancelHandle, Cancels, Refused}
use Rattle.machine.specs.Lists.{has_number}
use Rattle.machine.specs.Request.{held_of}
use Rattle.machine.specs.Refusal.{cause}
use Rattle.machine.specs.Run.{ledger_before, IsGiven}
use Rattle.run_laws.specs.Moments.{IsHandedBefore, IsDroppedBefore}

-- The event at i created a cancel handle of the canceller c.
pub record CreatesHandle (events : List Event) (replies : List Reply) (c handle i : ℕ) : Type 0 where
  pub event : slice_get events i ≡ Some (NewHandle c)
  pub reply : slice_get replies i ≡ Some (CancelHandle handle)

-- A CancelAll of the canceller c came after the event at i and before the event at j, and wasn't refused.
pub record IsCanceledBetween (events : List Event) (replies : List Reply) (c i j : ℕ) : Type 0 where
  pub cancel : ℕ
  pub numbers : List ℕ
  pub after : i < cancel
  pub before : cancel < j
  pub event : slice_get events cancel ≡ Some (CancelAll c)
  pub reply : slice_get replies cancel ≡ Some (Cancels numbers)

-- The group of a cancel handle was canceled before the event at i: a CancelAll of its canceller came since it was created.
pub record IsCanceledHandle (events : List Event) (replies : List Reply) (handle i : ℕ) : Type 0 where
  pub canceller : ℕ
  pub made : ℕ
  pub is_made : CreatesHandle events replies canceller handle made
  pub canceled : IsCanceledBetween events replies canceller made i

-- An event before the event at i gave n under a cancel handle of the canceller c, and no CancelAll of c came since the handle was
-- created: n is in the present group of c.
pub record IsGivenUnder (capacity : ℕ) (events : List Event) (replies : List Reply) (c n i : ℕ) : Type 0 where
  pub given : ℕ
  pub before : given < i
  pub is_given : IsGiven capacity events n given
  pub handle : ℕ
  pub under : is_given.under ≡ Some handle
  pub made : ℕ
  pub is_made : CreatesHandle events replies c handle made
  pub present : IsCanceledBetween events replies c made i → ⊥

-- Before the event at i an operation is a member of the present group of the canceller c: it was given under it, and was neither handed
-- over nor dropped.
pub record IsMemberBefore (capacity : ℕ) (events : List Event) (replies : List Reply) (c n i : ℕ) : Type 0 where
  pub given : IsGivenUnder capacity events replies c n i
  pub unhanded : IsHandedBefore events replies n i → ⊥
  pub undropped : IsDroppedBefore events replies n i → ⊥

-- Numbers rise: each is below those after it.
abbrev pub Rise : List ℕ → Type 0
Rise numbers = (i j m n : ℕ) → i < j → slice_get numbers i ≡ Some m → slice_get numbers j ≡ Some n → m < n

-- The reply at i names exactly the members of the present group of the canceller c, in ascending order.
pub record NamesMembers (capacity : ℕ) (events : List Event) (replies : List Reply) (c i : ℕ) : Type 0 where
  pub numbers : List ℕ
  pub reply : slice_get replies i ≡ Some (Cancels numbers)
  pub rise : Rise numbers
  pub names : (n : ℕ) → (has_number n numbers ≡ true) ↔ IsMemberBefore capacity events replies c n i

-- An unrefused CancelAll names exactly the members of its canceller's present group.
abbrev pub CancelsMembers : ℕ → List Event → List Reply → Type 0
CancelsMembers capacity events replies =
    (c i : ℕ) → slice_get events i ≡ Some (CancelAll c) → cause (ledger_before capacity events i) (CancelAll c) ≡ None →
    NamesMembers capacity events replies c i

-- The event at i submits a request that holds this, unrefused, under a cancel handle whose group was canceled before.
pub record IsUnderCanceled (capacity : ℕ) (events : List Event) (replies : List Reply) (i : ℕ) (buffer : HeldBuf) : Type 0 where
  pub request : Request Buffer Parts
  pub handle : ℕ
  pub linked : Bool
  pub event : slice_get events i ≡ Some (Submit request (Some handle) linked)
  pub unrefused : cause (ledger_before capacity events i) (Submit request (Some handle) linked) ≡ None
  pub canceled : IsCanceledHandle events replies handle i
  pub holds : buffer ≡ held_of request

-- An event is answered CanceledAtOnce exactly where it submits under a canceled group, and then with what its request holds.
abbrev pub CanceledAtOnceExactly : ℕ → List Event → List Reply → Type 0
CanceledAtOnceExactly capacity events replies =
    (i : ℕ) (buffer : HeldBuf) →
    (slice_get replies i ≡ Some (CanceledAtOnce buffer)) ↔ IsUnderCanceled capacity events replies i buffer

-- A reply to an event before the event at i gave the number of a new canceller.
pub record IsCancellerBefore (replies : List Reply) (c i : ℕ) : Type 0 where
  pub made : ℕ
  pub before : made < i
  pub reply : slice_get replies made ≡ Some (Canceller c)

-- A reply to an event before the event at i gave the number of a new cancel handle.
pub record IsHandleBefore (replies : List Reply) (handle i : ℕ) : Type 0 where
  pub made : ℕ
  pub before : made < i
  pub reply : slice_get replies made ≡ Some (CancelHandle handle)

-- The event at i names a canceller, or submits under a cancel handle, that was never created before.
abbrev pub NamesNoCanceller : List Reply → ℕ → Event → Type 0
NamesNoCanceller replies i (NewHandle c) = IsCancellerBefore replies c i → ⊥
NamesNoCanceller replies i (CancelAll c) = IsCancellerBefore replies c i → ⊥
NamesNoCanceller replies i (Submit request (Some handle) linked) = IsHandleBefore replies handle i → ⊥
NamesNoCanceller replies i _ = ⊥

-- An event is refused as NoCanceller exactly where it names a canceller, or submits under a cancel handle, that was never created.
abbrev pub NoCancellerExactly : List Event → List Reply → Type 0
NoCancellerExactly events replies =
    (i : ℕ) (event : Event) → slice_get events i ≡ Some event →
    (slice_get replies i ≡ Some (Refused NoCanceller)) ↔ NamesNoCanceller replies i event

-- A reply creates a canceller.
abbrev pub creates_canceller : Reply → Bool
creates_canceller (Canceller c) = true
creates_canceller _ = false

-- A reply creates a cancel handle.
abbrev pub creates_handle : Reply → Bool
creates_handle (CancelHandle handle) = true
creates_handle _ = false

-- Cancellers are numbered in order, from 0: the number of each is the count of the replies before it that created one.
abbrev pub CancellersInOrder : List Reply → Type 0
CancellersInOrder replies =
    (c i : ℕ) → slice_get replies i ≡ Some (Canceller c) → c ≡ count_by creates_canceller (take i replies)

-- So are cancel handles.
abbrev pub HandlesInOrder : List Reply → Type 0
HandlesInOrder replies =
    (handle i : ℕ) → slice_get replies i ≡ Some (CancelHandle handle) → handle ≡ count_by creates_handle (take i replies)
