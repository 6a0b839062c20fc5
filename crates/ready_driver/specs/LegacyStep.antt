-- The step of a readiness driver over handles in memory: the next driver and the reply, for each event but Turn, Exec and
-- a linked Submit. Cited by `readiness`, and by the calls of `LegacyDriver` over such handles.
use Rattle.std.specs.Prelude.{ℕ, Bool, true, false, not, ◌&&◌, ◌||◌, nat_le, List, [], ◌∷◌, ◌++◌, length}
use Rattle.std.specs.Prelude.{Option, Some, None, is_some, option_map}
use Rattle.rent_buf.specs.Buffer.{Buffer}
use Rattle.rent_buf.specs.Parts.{Parts}
use Rattle.machine.specs.declared.request.TheConstants.{CANCELED}
use Rattle.machine.specs.declared.request.Request.{Request}
use Rattle.machine.specs.declared.request.Told.{Told}
use Rattle.machine.specs.declared.request.Told.TheVariants.{Fail}
use Rattle.machine.specs.declared.ledger.TheConstants.{MOST_LIVE}
use Rattle.machine.specs.declared.ledger.Event.{Event}
use Rattle.machine.specs.declared.ledger.Event.TheVariants.{Give, Feed, FeedMessage, End, Look, Close, Submit, Poll, Drop, Cancel}
use Rattle.machine.specs.declared.ledger.Event.TheVariants.{NewCanceller, NewHandle, CancelAll, Turn, Exec}
use Rattle.machine.specs.declared.ledger.Refusal.{Refusal}
use Rattle.machine.specs.declared.ledger.Refusal.TheVariants.{NoOp, NoCanceller, NoHandle, Full, BadHandleEvent}
use Rattle.machine.specs.declared.ledger.Reply.{Reply}
use Rattle.machine.specs.declared.ledger.Reply.TheVariants.{Handle, Fed, Ended, Released, Submitted, Pending, Handed, Dropped}
use Rattle.machine.specs.declared.ledger.Reply.TheVariants.{Asked, CanceledAtOnce, Canceller, CancelHandle, Cancels, Refused}
use Rattle.machine.specs.Lists.{amended}
use Rattle.machine.specs.Request.{named, call_of, sent_of, held_of, held}
use Rattle.machine.specs.World.{fresh, with_input, with_message, with_end, look_at}
use Rattle.machine.specs.Attempt.{attempt}
use Rattle.machine.specs.Effect.{Effect, effect, made_by}
use Rattle.machine.specs.Ledger.{is_under_marked, group_under}
use Rattle.machine.specs.Refusal.{refused_if, has_no_canceller, has_bad_handle_event}
use Rattle.machine.specs.Step.{group_of, look_reply}
use Rattle.ready_driver.specs.Legacy.{LegacyOp, Legacy, seen, slot_at, live_at, holds_at, members_at}

-- NoOp: the operation was never submitted, or is gone.
abbrev pub misses_op : Legacy → Event → Bool
misses_op D (Poll n task) = not (is_some (slot_at D n))
misses_op D (Drop n) = not (is_some (slot_at D n))
misses_op D (Cancel n) = not (is_some (slot_at D n))
misses_op D _ = false

-- The user doesn't hold one of these handles.
abbrev pub misses_handle : Legacy → List ℕ → Bool
misses_handle D [] = false
misses_handle D (h ∷ handles) = not (holds_at D h) || misses_handle D handles

-- NoHandle: the user doesn't hold a handle that the event names.
abbrev pub misses_handles : Legacy → Event → Bool
misses_handles D (Feed h bytes) = misses_handle D (h ∷ [])
misses_handles D (FeedMessage h addr bytes) = misses_handle D (h ∷ [])
misses_handles D (End h) = misses_handle D (h ∷ [])
misses_handles D (Look h) = misses_handle D (h ∷ [])
misses_handles D (Close h) = misses_handle D (h ∷ [])
misses_handles D (Submit request under linked) = misses_handle D (named request)
misses_handles D _ = false

-- Full: as many operations as there may be aren't gone.
abbrev pub has_no_room : Legacy → Event → Bool
has_no_room D (Submit request under linked) = not (is_under_marked (seen D) under) && nat_le MOST_LIVE (length (live_at D))
has_no_room D _ = false

-- What an event is refused with: the first refusal whose test passes, in this order; else none.
abbrev pub legacy_cause : Legacy → Event → Option Refusal
legacy_cause D event =
    refused_if (misses_op D event) NoOp (
    refused_if (has_no_canceller (seen D) event) NoCanceller (
    refused_if (misses_handles D event) NoHandle (
    refused_if (has_no_room D event) Full (
    refused_if (has_bad_handle_event (seen D) event) BadHandleEvent None))))

-- An operation is gone.
abbrev pub freed : Legacy → ℕ → Legacy
freed D n = record D { slots = amended D.slots n (λ slot. None) }

-- What an operation's call moves.
abbrev pub op_effect : Legacy → LegacyOp → Told → Effect
op_effect D op told = effect D.world (call_of op.request) (sent_of op.request) told

-- Whether the user holds each handle, once it got the one that was made, where there is one.
abbrev pub users_with : Option ℕ → List Bool → List Bool
users_with None users = users
users_with (Some h) users = users ++ true ∷ []

-- An operation ends with this report: it is gone, its outcome and its buffer are the reply, and what it made is its user's.
abbrev pub ends_with : Legacy → ℕ → LegacyOp → Told → Legacy × Reply
ends_with D n op told = (
  record (freed D n) {
    world = (op_effect D op told).world;
    users = users_with (made_by (op_effect D op told).outcome) D.users;
  },
  Handed (op_effect D op told).outcome (held op.request told (op_effect D op told).got),
)

-- The poll of an operation, by whether its cancel is asked for, and by what its call makes: where that would block nothing changes.
abbrev pub poll_op : Bool → Option Told → Legacy → ℕ → LegacyOp → Legacy × Reply
poll_op true made D n op = ends_with D n op (Fail CANCELED)
poll_op false None D n op = (D, Pending)
poll_op false (Some told) D n op = ends_with D n op told

-- The poll of what was looked up.
abbrev pub poll_slot : Legacy → ℕ → Option LegacyOp → Legacy × Reply
poll_slot D n None = (D, Refused NoOp)
poll_slot D n (Some op) = poll_op op.asked (attempt D.world (call_of op.request)) D n op

-- An operation whose cancel is asked for.
abbrev pub with_ask : LegacyOp → LegacyOp
with_ask op = record op { asked = true }

-- The cancel of each of these operations is asked for.
abbrev pub ask_each : List (Option LegacyOp) → List ℕ → List (Option LegacyOp)
ask_each slots [] = slots
ask_each slots (n ∷ numbers) = ask_each (amended slots n (option_map with_ask)) numbers

-- A new operation, under a group or none.
abbrev pub new_op : Request Buffer Parts → Option ℕ → LegacyOp
new_op request group = record { request = request; group = group; asked = false }

-- Submit: under a marked group what the request holds comes back; else it is a new operation of the next number.
abbrev pub submit_at : Bool → Legacy → Request Buffer Parts → Option ℕ → Legacy × Reply
submit_at true D request group = (D, CanceledAtOnce (held_of request))
submit_at false D request group = (record D { slots = D.slots ++ Some (new_op request group) ∷ [] }, Submitted (length D.slots))

-- CancelAll: the group is marked, the cancel of each of its members is asked for, and the canceller gets a fresh group.
abbrev pub cancel_group : Legacy → ℕ → ℕ → Legacy
cancel_group D c g = record D {
  slots = ask_each D.slots (members_at D g);
  groups = amended D.groups g (λ mark. true) ++ false ∷ [];
  cancellers = amended D.cancellers c (λ group. length D.groups);
}

-- The rule for an event that isn't refused. It has none for Turn, Exec and a linked Submit.
abbrev pub legacy_row : Legacy → Event → Legacy × Reply
legacy_row D (Give kind) = (record D { world = D.world ++ fresh kind ∷ []; users = D.users ++ true ∷ [] }, Handle (length D.world))
legacy_row D (Feed h bytes) = (record D { world = amended D.world h (with_input bytes) }, Fed)
legacy_row D (FeedMessage h addr bytes) = (record D { world = amended D.world h (with_message addr bytes) }, Fed)
legacy_row D (End h) = (record D { world = amended D.world h with_end }, Ended)
legacy_row D (Look h) = (D, look_reply (look_at D.world h))
legacy_row D (Close h) = (record D { users = amended D.users h (λ is_user. false) }, Released)
legacy_row D (Submit request under false) = submit_at (is_under_marked (seen D) under) D request (group_under (seen D) under)
legacy_row D (Poll n task) = poll_slot D n (slot_at D n)
legacy_row D (Drop n) = (freed D n, Dropped)
legacy_row D (Cancel n) = (record D { slots = amended D.slots n (option_map with_ask) }, Asked)
legacy_row D NewCanceller =
    (record D { groups = D.groups ++ false ∷ []; cancellers = D.cancellers ++ length D.groups ∷ [] }, Canceller (length D.cancellers))
legacy_row D (NewHandle c) =
    (record D { cancel_handles = D.cancel_handles ++ group_of (seen D) c ∷ [] }, CancelHandle (length D.cancel_handles))
legacy_row D (CancelAll c) = (cancel_group D c (group_of (seen D) c), Cancels (members_at D (group_of (seen D) c)))
legacy_row D (Submit request under true) = (D, Pending)
legacy_row D Turn = (D, Pending)
legacy_row D (Exec place told) = (D, Pending)

-- An event with its cause: where there is one, nothing changes and the reply carries it.
abbrev pub legacy_answered : Option Refusal → Legacy → Event → Legacy × Reply
legacy_answered (Some refusal) D event = (D, Refused refusal)
legacy_answered None D event = legacy_row D event

-- One step of the driver.
abbrev pub legacy_step : Legacy → Event → Legacy × Reply
legacy_step D event = legacy_answered (legacy_cause D event) D event

-- The driver after events.
abbrev pub legacy_after : Legacy → List Event → Legacy
legacy_after D [] = D
legacy_after D (event ∷ events) = legacy_after (legacy_step D event).0 events

-- The replies to events.
abbrev pub legacy_replies : Legacy → List Event → List Reply
legacy_replies D [] = []
legacy_replies D (event ∷ events) = (legacy_step D event).1 ∷ legacy_replies (legacy_step D event).0 events
