-- What an event is to the machine where a readiness driver answers it: a list of events, of which one gets the reply. The driver asks for
-- no execution and no turn, and links no operation, so these are for every event but Turn, Exec and a linked Submit. Cited by `readiness`.
--
-- A poll makes its call: it is a turn, the execution of its operation and a turn, and then the poll. A drop is followed by the same, so
-- that the operation is gone at once, and so is each event after which a handle is closed.
use Rattle.std.specs.Prelude.{ℕ, suc, Bool, true, false, not, ◌&&◌, ◌||◌, ◌==◌, if◌then◌else◌, List, [], ◌∷◌, ◌++◌}
use Rattle.std.specs.Prelude.{Option, Some, None, unwrap_or, is_none, slice_get}
use Rattle.machine.specs.declared.request.TheConstants.{CANCELED}
use Rattle.machine.specs.declared.request.Told.{Told}
use Rattle.machine.specs.declared.request.Told.TheVariants.{Count, Fail}
use Rattle.machine.specs.declared.ledger.Event.{Event}
use Rattle.machine.specs.declared.ledger.Event.TheVariants.{Poll, Drop, Turn, Exec}
use Rattle.machine.specs.declared.ledger.Refusal.{Refusal}
use Rattle.machine.specs.declared.ledger.Reply.{Reply}
use Rattle.machine.specs.Lists.{passes}
use Rattle.machine.specs.Request.{call_of}
use Rattle.machine.specs.Attempt.{attempt}
use Rattle.machine.specs.Ledger.{Ledger, Operation, Queued, Req, Item, Op}
use Rattle.machine.specs.Refusal.{cause}
use Rattle.machine.specs.Step.{step}
use Rattle.machine.specs.Run.{after}

-- The cancel of an operation is in a queue.
abbrev pub has_cancel : ℕ → List Queued → Bool
has_cancel n [] = false
has_cancel n (Req m ∷ entries) = has_cancel n entries
has_cancel n (Queued.Cancel m ∷ entries) = n == m || has_cancel n entries
has_cancel n (Queued.Close h ∷ entries) = has_cancel n entries

-- The cancel of an operation is asked for: it was taken, or it is in the queue.
abbrev pub asked : Ledger → ℕ → Bool
asked L n = passes (λ operation. operation.canceled) (slice_get L.ops n) || has_cancel n L.queue

-- What is reported of an operation's call if it is made now; None where it would block.
abbrev pub attempted : Ledger → Option Operation → Option Told
attempted L None = None
attempted L (Some operation) = attempt L.world (call_of operation.request)

-- An operation is blocked: its cancel isn't asked for, and its call would block.
abbrev pub blocked : Ledger → ℕ → Bool
blocked L n = not (asked L n) && is_none (attempted L (slice_get L.ops n))

-- What a driver reports that makes each call as soon as it is polled: the error of a cancel where that is asked for, else what the call
-- made. Of what is blocked it reports nothing, and is not asked.
abbrev pub greedy : Ledger → ℕ → Told
greedy L n = if asked L n then Fail CANCELED else unwrap_or (attempted L (slice_get L.ops n)) (Fail 0)

-- The place of an operation in a list of items: how many are before it.
abbrev pub place_of : ℕ → List Item → ℕ
place_of n [] = 0
place_of n (Op m ∷ items) = if n == m then 0 else suc (place_of n items)
place_of n (Item.Close h ∷ items) = suc (place_of n items)

-- The event that gets the reply, with those before it and those behind it.
pub record Spelling : Type 0 where
  pub before : List Event
  pub answering : Event
  pub behind : List Event

-- All events of a spelling.
abbrev pub spelled_out : Spelling → List Event
spelled_out spelling = spelling.before ++ spelling.answering ∷ spelling.behind

-- An event that is only itself.
abbrev pub itself : Event → Spelling
itself event = record { before = []; answering = event; behind = [] }

-- A turn, the execution of an operation with this report, and a turn.
abbrev pub finishing : Ledger → ℕ → Told → List Event
finishing L n told = Turn ∷ Exec (place_of n (after L (Turn ∷ [])).flying) told ∷ Turn ∷ []

-- A poll: where the operation is blocked it is only itself, else the call is made before it.
abbrev pub poll_spelling : Bool → Ledger → ℕ → ℕ → Spelling
poll_spelling true L n task = itself (Poll n task)
poll_spelling false L n task = record { before = finishing L n (greedy L n); answering = Poll n task; behind = [] }

-- A drop: the operation is canceled behind it, and is gone.
abbrev pub drop_spelling : Ledger → ℕ → Spelling
drop_spelling L n =
    record { before = []; answering = Drop n; behind = finishing (after L (Drop n ∷ [])) n (Fail CANCELED) }

-- An event that isn't refused, without the closes behind it.
abbrev pub row_spelling : Ledger → Event → Spelling
row_spelling L (Poll n task) = poll_spelling (blocked L n) L n task
row_spelling L (Drop n) = drop_spelling L n
row_spelling L event = itself event

-- An event with its cause: a refused one is only itself.
abbrev pub open_spelling : Option Refusal → Ledger → Event → Spelling
open_spelling (Some refusal) L event = itself event
open_spelling None L event = row_spelling L event

-- A close is in a queue.
abbrev pub has_close : List Queued → Bool
has_close [] = false
has_close (Req n ∷ entries) = has_close entries
has_close (Queued.Cancel n ∷ entries) = has_close entries
has_close (Queued.Close h ∷ entries) = true

-- Each close among items is executed with the count 0, in order; so many items stay before the rest.
abbrev pub close_execs : ℕ → List Item → List Event
close_execs kept [] = []
close_execs kept (Op n ∷ items) = close_execs (suc kept) items
close_execs kept (Item.Close h ∷ items) = Exec kept (Count 0) ∷ close_execs kept items

-- A turn, the execution of each close in flight, and a turn.
abbrev pub closing : Ledger → List Event
closing L = Turn ∷ close_execs 0 (after L (Turn ∷ [])).flying ++ Turn ∷ []

-- What is behind a ledger that has a close in its queue: the close is executed and named.
abbrev pub closes_behind : Ledger → List Event
closes_behind L = if has_close L.queue then closing L else []

-- A spelling with the closes that it leaves in the queue.
abbrev pub with_closes : Ledger → Spelling → Spelling
with_closes L spelling = record spelling { behind = spelling.behind ++ closes_behind (after L (spelled_out spelling)) }

-- What an event other than Turn, Exec and a linked Submit is to the machine.
abbrev pub spelled : Ledger → Event → Spelling
spelled L event = with_closes L (open_spelling (cause L event) L event)

-- The ledger after an event as it is spelled.
abbrev pub ledger_behind : Ledger → Event → Ledger
ledger_behind L event = after L (spelled_out (spelled L event))

-- The reply to an event as it is spelled: that to its answering event.
abbrev pub spelled_reply : Ledger → Spelling → Reply
spelled_reply L spelling = (step (after L spelling.before) spelling.answering).1

-- The replies to events as they are spelled, each from the ledger behind the one before it.
abbrev pub spelled_replies : Ledger → List Event → List Reply
spelled_replies L [] = []
spelled_replies L (event ∷ events) = spelled_reply L (spelled L event) ∷ spelled_replies (ledger_behind L event) events

-- The ledger after events as they are spelled.
abbrev pub spelled_after : Ledger → List Event → Ledger
spelled_after L [] = L
spelled_after L (event ∷ events) = spelled_after (ledger_behind L event) events
