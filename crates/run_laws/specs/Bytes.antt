-- The laws of bytes: what a handle has at each moment of a run, by the transfers at it, at every capacity. `headline` states them.
use Rattle.std.specs.Prelude.{ℕ, ◌≡◌, ◌⊎◌, true, false, List, [], ◌∷◌, ◌++◌, length, take}
use Rattle.std.specs.Prelude.{Option, Some, slice_get}
use Rattle.std.specs.List.{flat_map}
use Rattle.rent_buf.specs.Held.{HeldBuf}
use Rattle.machine.specs.declared.request.Call.TheVariants.{In, MessageIn, ToPipe, FromPipe}
use Rattle.machine.specs.declared.request.Told.TheVariants.{Count}
use Rattle.machine.specs.declared.request.Outcome.{Outcome}
use Rattle.machine.specs.declared.request.Outcome.TheVariants.{From}
use Rattle.machine.specs.declared.world.HandleKind.{HandleKind}
use Rattle.machine.specs.declared.world.HandleKind.TheVariants.{Pipe}
use Rattle.machine.specs.declared.world.HandleState.{HandleState}
use Rattle.machine.specs.declared.ledger.Event.{Event}
use Rattle.machine.specs.declared.ledger.Event.TheVariants.{Exec}
use Rattle.machine.specs.World.{is_file}
use Rattle.machine.specs.Request.{call_of, sent_of}
use Rattle.machine.specs.Ledger.{empty}
use Rattle.machine.specs.Turn.{effect_of}
use Rattle.machine.specs.Run.{ledger_before, IsOwn}
use Rattle.run_laws.specs.Transfers.{Transfer, Fed, Taken, Sent, MessageFed, MessageTaken, MessageSent, moved_as}
use Rattle.run_laws.specs.Transfers.{event_moves, transfers}
use Rattle.run_laws.specs.Files.{pieces, HoldsLast}

-- Bytes that are sent to a handle of a kind join the input of a pipe.
abbrev pub sent_in : HandleKind → List ℕ → List ℕ
sent_in Pipe bytes = bytes
sent_in _ bytes = []

-- They join the output of a handle that is no pipe.
abbrev pub sent_out : HandleKind → List ℕ → List ℕ
sent_out Pipe bytes = []
sent_out _ bytes = bytes

-- The bytes that a transfer brings to the input of a handle of a kind, which is no file.
abbrev pub brought : HandleKind → Transfer → List ℕ
brought kind (Fed bytes) = bytes
brought kind (Sent bytes) = sent_in kind bytes
brought kind _ = []

-- The bytes that a transfer takes from the input.
abbrev pub taken : Transfer → List ℕ
taken (Taken bytes) = bytes
taken _ = []

-- The bytes that a transfer brings to the output.
abbrev pub put_out : HandleKind → Transfer → List ℕ
put_out kind (Sent bytes) = sent_out kind bytes
put_out kind _ = []

-- The message that a transfer brings.
abbrev pub message_brought : Transfer → List (ℕ × List ℕ)
message_brought (MessageFed addr bytes) = (addr, bytes) ∷ []
message_brought _ = []

-- The message that a transfer takes.
abbrev pub message_left : Transfer → List (ℕ × List ℕ)
message_left (MessageTaken message) = message ∷ []
message_left _ = []

-- The message that a transfer sends.
abbrev pub message_put_out : Transfer → List (Option ℕ × List ℕ)
message_put_out (MessageSent addr bytes) = (addr, bytes) ∷ []
message_put_out _ = []

-- The transfers at a handle before the event at i, in order.
abbrev pub transfers_before : ℕ → List Event → ℕ → ℕ → List Transfer
transfers_before capacity events h i = transfers h (empty capacity) (take i events)

-- At each moment what came to the input of a handle that is no file is, in order, what its executed reads and splices took, and behind it
-- what waits.
abbrev pub InputInOrder : ℕ → List Event → Type 0
InputInOrder capacity events =
    (i h : ℕ) (handle : HandleState) → slice_get (ledger_before capacity events i).world h ≡ Some handle → is_file handle.kind ≡ false →
    flat_map (brought handle.kind) (transfers_before capacity events h i)
    ≡ flat_map taken (transfers_before capacity events h i) ++ handle.input

-- At each moment the messages that came are, in order, those that executed receives took, each whole, and behind them those that wait.
abbrev pub MessagesInOrder : ℕ → List Event → Type 0
MessagesInOrder capacity events =
    (i h : ℕ) (handle : HandleState) → slice_get (ledger_before capacity events i).world h ≡ Some handle →
    flat_map message_brought (transfers_before capacity events h i)
    ≡ flat_map message_left (transfers_before capacity events h i) ++ handle.messages_in

-- At each moment a file has the bytes of its last writes and feeds.
abbrev pub FilesHoldLast : ℕ → List Event → Type 0
FilesHoldLast capacity events =
    (i h : ℕ) (handle : HandleState) → slice_get (ledger_before capacity events i).world h ≡ Some handle → is_file handle.kind ≡ true →
    HoldsLast (pieces [] (transfers_before capacity events h i)) handle.input

-- At each moment the output of a handle has the bytes that were sent to it, in order.
abbrev pub OutputInOrder : ℕ → List Event → Type 0
OutputInOrder capacity events =
    (i h : ℕ) (handle : HandleState) → slice_get (ledger_before capacity events i).world h ≡ Some handle →
    flat_map (put_out handle.kind) (transfers_before capacity events h i) ≡ handle.output

-- So it has the messages that were sent by it.
abbrev pub SentInOrder : ℕ → List Event → Type 0
SentInOrder capacity events =
    (i h : ℕ) (handle : HandleState) → slice_get (ledger_before capacity events i).world h ≡ Some handle →
    flat_map message_put_out (transfers_before capacity events h i) ≡ handle.messages_out

-- What an operation moves at a handle when it is executed.
abbrev pub own_moves : (capacity : ℕ) (events : List Event) (n h : ℕ) (outcome : Outcome) (buffer : HeldBuf) →
    IsOwn capacity events n outcome buffer → List Transfer
own_moves capacity events n h outcome buffer own =
    event_moves h (ledger_before capacity events own.exec) (Exec own.is_executed.place own.told)

-- What a request gets by what is told of it, from what the handles have at the execution of its operation.
abbrev pub own_got : (capacity : ℕ) (events : List Event) (n : ℕ) (outcome : Outcome) (buffer : HeldBuf) →
    IsOwn capacity events n outcome buffer → List ℕ
own_got capacity events n outcome buffer own =
    (effect_of (ledger_before capacity events own.exec) own.is_given.request own.told).got

-- It is what the request that was submitted moves with what was told.
abbrev pub MovesOwn : ℕ → List Event → Type 0
MovesOwn capacity events =
    (n h : ℕ) (outcome : Outcome) (buffer : HeldBuf) (own : IsOwn capacity events n outcome buffer) →
    own_moves capacity events n h outcome buffer own
    ≡ moved_as h (ledger_before capacity events own.exec).world (call_of own.is_given.request) (sent_of own.is_given.request) own.told

-- So many bytes leave the input of a handle: these.
pub record TakesBytes (moves : List Transfer) (bytes : List ℕ) (k : ℕ) : Type 0 where
  pub moved : moves ≡ Taken bytes ∷ []
  pub count : length bytes ≡ k

-- An executed read takes so many bytes from its handle as its outcome says, and they are what its own buffer stores.
abbrev pub ReadsTakeOwn : ℕ → List Event → Type 0
ReadsTakeOwn capacity events =
    (n h want k : ℕ) (outcome : Outcome) (buffer : HeldBuf) (own : IsOwn capacity events n outcome buffer) →
    call_of own.is_given.request ≡ In h want → own.told ≡ Count k →
    TakesBytes (own_moves capacity events n h outcome buffer own) (own_got capacity events n outcome buffer own) k

-- One message leaves a handle, whole: the outcome has its address, and what came of it are its first bytes.
pub record TakesMessage (moves : List Transfer) (got : List ℕ) (outcome : Outcome) (k : ℕ) : Type 0 where
  pub message : ℕ × List ℕ
  pub moved : moves ≡ MessageTaken message ∷ []
  pub stored : got ≡ take k message.1
  pub address : outcome ≡ From k message.0

-- So an executed receive takes one message from its handle, and its own buffer stores the first bytes.
abbrev pub ReceivesTakeOwn : ℕ → List Event → Type 0
ReceivesTakeOwn capacity events =
    (n h want k : ℕ) (outcome : Outcome) (buffer : HeldBuf) (own : IsOwn capacity events n outcome buffer) →
    call_of own.is_given.request ≡ MessageIn h want → own.told ≡ Count k →
    TakesMessage (own_moves capacity events n h outcome buffer own) (own_got capacity events n outcome buffer own) outcome k

-- So many bytes leave the input of one handle, and are sent to another one.
pub record PassesOn (from to : List Transfer) (k : ℕ) : Type 0 where
  pub bytes : List ℕ
  pub takes : TakesBytes from bytes k
  pub sends : to ≡ Sent bytes ∷ []

-- An executed splice passes on so many bytes as its outcome says.
abbrev pub SplicesPassOn : ℕ → List Event → Type 0
SplicesPassOn capacity events =
    (n from to want k : ℕ) (outcome : Outcome) (buffer : HeldBuf) (own : IsOwn capacity events n outcome buffer) →
    (call_of own.is_given.request ≡ ToPipe from to want) ⊎ (call_of own.is_given.request ≡ FromPipe from to want) → own.told ≡ Count k →
    PassesOn (own_moves capacity events n from outcome buffer own) (own_moves capacity events n to outcome buffer own) k
