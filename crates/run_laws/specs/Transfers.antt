-- What moves at a handle in a run: the bytes and messages that come to it and leave it, in the order of the events. `Bytes` says the
-- laws over them.
use Rattle.std.specs.Prelude.{ℕ, ◌==◌, if◌then◌else◌, List, [], ◌∷◌, ◌++◌, take, Option, None, Some, slice_get}
use Rattle.machine.specs.declared.request.Call.{Call}
use Rattle.machine.specs.declared.request.Call.TheVariants.{In, Out, MessageIn, MessageOut, WriteAt, ToPipe, FromPipe}
use Rattle.machine.specs.declared.request.Told.{Told}
use Rattle.machine.specs.declared.request.Told.TheVariants.{Count, Fail}
use Rattle.machine.specs.declared.world.HandleState.{HandleState}
use Rattle.machine.specs.declared.ledger.Event.{Event}
use Rattle.machine.specs.declared.ledger.Event.TheVariants.{Feed, FeedMessage, Exec}
use Rattle.machine.specs.declared.ledger.Refusal.{Refusal}
use Rattle.machine.specs.World.{input_at, messages_at}
use Rattle.machine.specs.Request.{call_of, sent_of}
use Rattle.machine.specs.Ledger.{Ledger, Operation, Item, Op}
use Rattle.machine.specs.Refusal.{cause}
use Rattle.machine.specs.Step.{step}

-- A transfer at a handle. Bytes are fed to it, leave its input, are sent to it, or are written to it from a position on. A message is fed
-- to it with its address, leaves it, or is sent by it to an address, where it has one.
pub data Transfer : Type 0 where
  Fed : List ℕ → Transfer
  Taken : List ℕ → Transfer
  Sent : List ℕ → Transfer
  Written : ℕ → List ℕ → Transfer
  MessageFed : ℕ → List ℕ → Transfer
  MessageTaken : ℕ × List ℕ → Transfer
  MessageSent : Option ℕ → List ℕ → Transfer

-- The transfers at h, where there is one at k.
abbrev pub at_handle : ℕ → ℕ → Transfer → List Transfer
at_handle h k transfer = if h == k then transfer ∷ [] else []

-- A receive takes the whole first message, where there is one.
abbrev pub message_taken : ℕ → ℕ → Option (ℕ × List ℕ) → List Transfer
message_taken h from None = []
message_taken h from (Some message) = at_handle h from (MessageTaken message)

-- Bytes that a splice moves leave the input of a handle, and are sent to another one.
abbrev pub spliced : ℕ → ℕ → ℕ → List ℕ → List Transfer
spliced h from to bytes = at_handle h from (Taken bytes) ++ at_handle h to (Sent bytes)

-- The transfers at h by a count of a call; `sent` are the bytes to send.
abbrev pub moved : ℕ → List HandleState → Call → List ℕ → ℕ → List Transfer
moved h world (In from want) sent k = at_handle h from (Taken (take k (input_at world from)))
moved h world (Out to offered) sent k = at_handle h to (Sent (take k sent))
moved h world (MessageIn from want) sent k = message_taken h from (slice_get (messages_at world from) 0)
moved h world (MessageOut from addr offered) sent k = at_handle h from (MessageSent addr (take k sent))
moved h world (WriteAt to pos offered) sent k = at_handle h to (Written pos (take k sent))
moved h world (ToPipe from pipe want) sent k = spliced h from pipe (take k (input_at world from))
moved h world (FromPipe pipe to want) sent k = spliced h pipe to (take k (input_at world pipe))
moved h world _ sent k = []

-- An error moves nothing.
abbrev pub moved_as : ℕ → List HandleState → Call → List ℕ → Told → List Transfer
moved_as h world call sent (Count k) = moved h world call sent k
moved_as h world call sent (Fail e) = []

-- The transfers at h by executing an operation that was looked up.
abbrev pub op_moves : ℕ → List HandleState → Told → Option Operation → List Transfer
op_moves h world told None = []
op_moves h world told (Some operation) = moved_as h world (call_of operation.request) (sent_of operation.request) told

-- The transfers at h by executing what was in flight.
abbrev pub item_moves : ℕ → Ledger → Told → Option Item → List Transfer
item_moves h L told (Some (Op n)) = op_moves h L.world told (slice_get L.ops n)
item_moves h L told _ = []

-- The transfers at h by an event that isn't refused.
abbrev pub row_moves : ℕ → Ledger → Event → List Transfer
row_moves h L (Feed k bytes) = at_handle h k (Fed bytes)
row_moves h L (FeedMessage k addr bytes) = at_handle h k (MessageFed addr bytes)
row_moves h L (Exec place told) = item_moves h L told (slice_get L.flying place)
row_moves h L _ = []

-- A refused event moves nothing.
abbrev pub moves_if : ℕ → Option Refusal → Ledger → Event → List Transfer
moves_if h (Some refusal) L event = []
moves_if h None L event = row_moves h L event

-- The transfers at h by an event.
abbrev pub event_moves : ℕ → Ledger → Event → List Transfer
event_moves h L event = moves_if h (cause L event) L event

-- The transfers at h by events, in their order.
abbrev pub transfers : ℕ → Ledger → List Event → List Transfer
transfers h L [] = []
transfers h L (event ∷ events) = event_moves h L event ++ transfers h (step L event).0 events
