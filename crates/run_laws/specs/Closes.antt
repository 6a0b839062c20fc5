-- The laws of closes: what the replies to any events tell of the closes of handles, at every capacity. `headline` states them.
use Rattle.std.specs.Prelude.{ℕ, ◌≡◌, ◌<◌, ◌≤◌, ◌⊎◌, Bool, true, false, ◌==◌, List, length, Some, None, slice_get}
use Rattle.rent_buf.specs.Held.{HeldBuf}
use Rattle.machine.specs.declared.request.Outcome.TheVariants.{Made}
use Rattle.machine.specs.declared.ledger.Event.{Event}
use Rattle.machine.specs.declared.ledger.Event.TheVariants.{Feed, FeedMessage, End, Look, Close, Submit}
use Rattle.machine.specs.declared.ledger.Reply.{Reply}
use Rattle.machine.specs.declared.ledger.Reply.TheVariants.{Handle, Released, Turned}
use Rattle.machine.specs.Lists.{has_number}
use Rattle.machine.specs.Request.{named}
use Rattle.machine.specs.Queue.{is_unheld}
use Rattle.machine.specs.Refusal.{cause}
use Rattle.machine.specs.Closes.{close_count, ClosesOnce, MadeAlone}
use Rattle.machine.specs.Run.{ledger_before, IsGiven, IsOwn}
use Rattle.run_laws.specs.Moments.{IsReapedBefore, IsHandedBefore, IsDroppedBefore}

-- The reply at i is that of a Turn, and names the close of h at a place of its second list.
pub record NamesClosed (replies : List Reply) (h i place : ℕ) : Type 0 where
  pub reaped : List ℕ
  pub closed : List ℕ
  pub woken : List ℕ
  pub reply : slice_get replies i ≡ Some (Turned reaped closed woken)
  pub named : slice_get closed place ≡ Some h

-- A Turn before the event at i named the close of h.
pub record IsClosedBefore (replies : List Reply) (h i : ℕ) : Type 0 where
  pub turn : ℕ
  pub place : ℕ
  pub before : turn < i
  pub names : NamesClosed replies h turn place

-- A Close of h came before the event at i, and wasn't refused.
pub record IsReleasedBefore (events : List Event) (replies : List Reply) (h i : ℕ) : Type 0 where
  pub release : ℕ
  pub before : release < i
  pub event : slice_get events release ≡ Some (Close h)
  pub reply : slice_get replies release ≡ Some Released

-- The event at i submitted n, with a request that names h.
pub record IsGivenOn (capacity : ℕ) (events : List Event) (n h i : ℕ) : Type 0 where
  pub given : IsGiven capacity events n i
  pub names : has_number h (named given.request) ≡ true

-- An operation was over before the event at i: it was returned, or it was dropped and reaped.
abbrev pub IsOverBefore : ℕ → List Event → List Reply → ℕ → ℕ → Type 0
IsOverBefore capacity events replies n i =
    IsHandedBefore events replies n i ⊎ (IsDroppedBefore events replies n i × IsReapedBefore capacity events n i)

-- An operation made h: its own outcome names it.
pub record IsMadeBy (capacity : ℕ) (events : List Event) (n h : ℕ) : Type 0 where
  pub buffer : HeldBuf
  pub own : IsOwn capacity events n (Made h) buffer

-- The operation that made h was dropped, and reaped, before the event at i.
pub record IsAbandonedBefore (capacity : ℕ) (events : List Event) (replies : List Reply) (h i : ℕ) : Type 0 where
  pub maker : ℕ
  pub made : IsMadeBy capacity events maker h
  pub dropped : IsDroppedBefore events replies maker i
  pub reaped : IsReapedBefore capacity events maker i

-- An event is about a handle: it feeds it, ends it, looks at it or closes it, or submits a request that names it.
abbrev pub is_about_handle : ℕ → Event → Bool
is_about_handle h (Feed k bytes) = h == k
is_about_handle h (FeedMessage k addr bytes) = h == k
is_about_handle h (End k) = h == k
is_about_handle h (Look k) = h == k
is_about_handle h (Close k) = h == k
is_about_handle h (Submit request under linked) = has_number h (named request)
is_about_handle h _ = false

-- The event at i is about h, and isn't refused.
pub record IsUsed (capacity : ℕ) (events : List Event) (h i : ℕ) : Type 0 where
  pub event : Event
  pub there : slice_get events i ≡ Some event
  pub about : is_about_handle h event ≡ true
  pub unrefused : cause (ledger_before capacity events i) event ≡ None

-- The replies name the close of a handle at most once.
abbrev pub ClosedOnce : List Reply → Type 0
ClosedOnce replies =
    (h i j place other : ℕ) → NamesClosed replies h i place → NamesClosed replies h j other → (i ≡ j) × (place ≡ other)

-- A Turn names the close of a handle only after an unrefused Close of that handle, or where the operation that made it was dropped and
-- reaped.
abbrev pub ClosedWhenReleased : ℕ → List Event → List Reply → Type 0
ClosedWhenReleased capacity events replies =
    (h i place : ℕ) → NamesClosed replies h i place →
    IsReleasedBefore events replies h i ⊎ IsAbandonedBefore capacity events replies h i

-- A Turn names the close of a handle only after each operation on it was over, whenever that was submitted.
abbrev pub ClosedWhenOver : ℕ → List Event → List Reply → Type 0
ClosedWhenOver capacity events replies =
    (h n i j place : ℕ) → NamesClosed replies h i place → IsGivenOn capacity events n h j → IsOverBefore capacity events replies n i

-- So it is with the operation that made the handle.
abbrev pub ClosedWhenMakerOver : ℕ → List Event → List Reply → Type 0
ClosedWhenMakerOver capacity events replies =
    (h n i place : ℕ) → NamesClosed replies h i place → IsMadeBy capacity events n h → IsOverBefore capacity events replies n i

-- The event at i created h: the reply to a Give names it, or the event executed the operation that made it.
abbrev pub IsCreated : ℕ → List Event → List Reply → ℕ → ℕ → Type 0
IsCreated capacity events replies h i =
    (slice_get replies i ≡ Some (Handle h)) ⊎ ((n : ℕ) × (made : IsMadeBy capacity events n h) × (made.own.exec ≡ i))

-- A handle is created once.
abbrev pub CreatedOnce : ℕ → List Event → List Reply → Type 0
CreatedOnce capacity events replies =
    (h i j : ℕ) → IsCreated capacity events replies h i → IsCreated capacity events replies h j → i ≡ j

-- At most one operation makes a handle.
abbrev pub MadeOnce : ℕ → List Event → Type 0
MadeOnce capacity events = (h n m : ℕ) → IsMadeBy capacity events n h → IsMadeBy capacity events m h → n ≡ m

-- An event about a handle that an operation made is refused until that operation was returned.
abbrev pub UsedWhenReturned : ℕ → List Event → List Reply → Type 0
UsedWhenReturned capacity events replies =
    (h n i : ℕ) → IsMadeBy capacity events n h → IsUsed capacity events h i → IsHandedBefore events replies n i

-- At each moment of a run what an operation made that isn't gone is what its outcome says, and nobody else holds it.
abbrev pub MadeOnly : ℕ → List Event → Type 0
MadeOnly capacity events = (i : ℕ) → MadeAlone (ledger_before capacity events i)

-- At each moment of a run a handle that nobody holds has its close in the queue, in flight or done, or a Turn before named it.
abbrev pub UnheldCloses : ℕ → List Event → List Reply → Type 0
UnheldCloses capacity events replies =
    (i h : ℕ) → i ≤ length events → h < length (ledger_before capacity events i).owners →
    is_unheld (ledger_before capacity events i) h ≡ true →
    (close_count (ledger_before capacity events i) h ≡ 1) ⊎ IsClosedBefore replies h i

-- At each moment of a run the close of a handle is in the lists at most once; and only where nobody holds the handle.
abbrev pub ClosedOnly : ℕ → List Event → Type 0
ClosedOnly capacity events = (i : ℕ) → ClosesOnce (ledger_before capacity events i)
