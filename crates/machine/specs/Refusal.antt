-- Which events are refused, and why: a test for each refusal, over the events that may get it.
use Rattle.std.specs.Prelude.{ℕ, Bool, true, false, not, ◌&&◌, ◌||◌, nat_le, List, [], ◌∷◌, length, Option, Some, None, is_some, slice_get}
use Rattle.machine.specs.declared.ledger.TheConstants.{MOST_LIVE}
use Rattle.machine.specs.declared.ledger.Event.{Event}
use Rattle.machine.specs.declared.ledger.Event.TheVariants.{Feed, FeedMessage, End, Look, Close, Submit, Poll, Drop, Cancel, Exec}
use Rattle.machine.specs.declared.ledger.Event.TheVariants.{NewHandle, CancelAll}
use Rattle.machine.specs.declared.ledger.Refusal.{Refusal}
use Rattle.machine.specs.declared.ledger.Refusal.TheVariants.{NoOp, NoCanceller, NoHandle, Full, NotFlying, Waiting, BadOutcome}
use Rattle.machine.specs.declared.ledger.Refusal.TheVariants.{BadHandleEvent}
use Rattle.machine.specs.declared.request.Told.{Told}
use Rattle.machine.specs.Lists.{passes}
use Rattle.machine.specs.World.{refuses_feed, refuses_message, refuses_end}
use Rattle.machine.specs.Request.{named, call_of}
use Rattle.machine.specs.Outcome.{is_allowed, may_close}
use Rattle.machine.specs.Ledger.{Ledger, Item, Op, is_owned, live_ops, user_holds, is_under_marked}

-- An operation was never submitted, is gone, or was dropped.
abbrev pub lacks_op : Ledger → ℕ → Bool
lacks_op L n = not (passes is_owned (slice_get L.ops n))

-- The user doesn't hold one of these handles.
abbrev pub lacks_handle : Ledger → List ℕ → Bool
lacks_handle L [] = false
lacks_handle L (h ∷ handles) = not (user_holds L h) || lacks_handle L handles

-- A reported outcome is allowed to an item of `flying`.
abbrev pub allowed : Ledger → Item → Told → Bool
allowed L (Op n) told = passes (λ operation. is_allowed L.world operation.canceled (call_of operation.request) told) (slice_get L.ops n)
allowed L (Item.Close h) told = may_close told

-- NoOp: the operation was never submitted, was returned, or was dropped.
abbrev pub has_no_op : Ledger → Event → Bool
has_no_op L (Poll n task) = lacks_op L n
has_no_op L (Drop n) = lacks_op L n
has_no_op L (Cancel n) = lacks_op L n
has_no_op L _ = false

-- NoCanceller: the canceller was never created, or the cancel handle that a request is submitted under wasn't.
abbrev pub has_no_canceller : Ledger → Event → Bool
has_no_canceller L (NewHandle c) = nat_le (length L.cancellers) c
has_no_canceller L (CancelAll c) = nat_le (length L.cancellers) c
has_no_canceller L (Submit request (Some handle) linked) = nat_le (length L.cancel_handles) handle
has_no_canceller L _ = false

-- NoHandle: the user doesn't hold a handle that the event names.
abbrev pub has_no_handle : Ledger → Event → Bool
has_no_handle L (Feed h bytes) = lacks_handle L (h ∷ [])
has_no_handle L (FeedMessage h addr bytes) = lacks_handle L (h ∷ [])
has_no_handle L (End h) = lacks_handle L (h ∷ [])
has_no_handle L (Look h) = lacks_handle L (h ∷ [])
has_no_handle L (Close h) = lacks_handle L (h ∷ [])
has_no_handle L (Submit request under linked) = lacks_handle L (named request)
has_no_handle L _ = false

-- Full: as many operations as there may be are live. It is asked only of a request that isn't submitted under a marked group.
abbrev pub is_full : Ledger → Event → Bool
is_full L (Submit request under linked) = not (is_under_marked L under) && nat_le MOST_LIVE (length (live_ops L))
is_full L _ = false

-- NotFlying: the place isn't below the length of `flying`.
abbrev pub is_not_flying : Ledger → Event → Bool
is_not_flying L (Exec place told) = nat_le (length L.flying) place
is_not_flying L _ = false

-- An item of `flying` waits: it is an operation that waits for another.
abbrev pub waits : Ledger → Item → Bool
waits L (Op n) = passes (λ operation. is_some operation.waits_for) (slice_get L.ops n)
waits L (Item.Close h) = false

-- Waiting: the operation at the place waits for another.
abbrev pub is_waiting : Ledger → Event → Bool
is_waiting L (Exec place told) = passes (waits L) (slice_get L.flying place)
is_waiting L _ = false

-- BadOutcome: the outcome isn't allowed to the item at the place.
abbrev pub has_bad_outcome : Ledger → Event → Bool
has_bad_outcome L (Exec place told) = not (passes (λ item. allowed L item told) (slice_get L.flying place))
has_bad_outcome L _ = false

-- BadHandleEvent: the handle doesn't take what arrives, by its kind, or because its end is marked.
abbrev pub has_bad_handle_event : Ledger → Event → Bool
has_bad_handle_event L (Feed h bytes) = passes refuses_feed (slice_get L.world h)
has_bad_handle_event L (FeedMessage h addr bytes) = passes refuses_message (slice_get L.world h)
has_bad_handle_event L (End h) = passes refuses_end (slice_get L.world h)
has_bad_handle_event L _ = false

-- A refusal where its test passes, else the next one.
abbrev pub refused_if : Bool → Refusal → Option Refusal → Option Refusal
refused_if true refusal next = Some refusal
refused_if false refusal next = next

-- What an event is refused with: the first refusal whose test passes, in this order; else none.
abbrev pub cause : Ledger → Event → Option Refusal
cause L event =
    refused_if (has_no_op L event) NoOp (
    refused_if (has_no_canceller L event) NoCanceller (
    refused_if (has_no_handle L event) NoHandle (
    refused_if (is_full L event) Full (
    refused_if (is_not_flying L event) NotFlying (
    refused_if (is_waiting L event) Waiting (
    refused_if (has_bad_outcome L event) BadOutcome (
    refused_if (has_bad_handle_event L event) BadHandleEvent None)))))))
