-- The texts of events, and the events that a line stands for.
use Rattle.std.specs.Prelude.{◌≡◌, ℕ, ◌^◌, ◌<◌, Bool, true, false, List, [], ◌∷◌, codes, decimal, Some, None}
use Rattle.machine.specs.declared.ledger.Event.{Event}
use Rattle.machine.specs.declared.ledger.Event.TheVariants.{Give, Feed, FeedMessage, End, Look, Close, Submit, Poll, Drop, Cancel}
use Rattle.machine.specs.declared.ledger.Event.TheVariants.{NewCanceller, NewHandle, CancelAll, Turn, Exec}
use Rattle.machine.specs.declared.request.Told.{Told}
use Rattle.machine.specs.declared.request.Told.TheVariants.{Count, Fail}
use Rattle.machine.specs.declared.world.HandleKind.{HandleKind}
use Rattle.machine.specs.declared.world.HandleKind.TheVariants.{Stream, Datagram, File, Pipe, Listener}
use Rattle.event_text.specs.TextRequest.{request_words, IsRequest}
use Rattle.event_text.specs.TextWords.{AreBytes, spaced, bytes_word}

-- The word of a handle's kind.
abbrev pub handle_kind_word : HandleKind → List ℕ
handle_kind_word Stream = codes "stream"
handle_kind_word Datagram = codes "datagram"
handle_kind_word File = codes "file"
handle_kind_word Pipe = codes "pipe"
handle_kind_word Listener = codes "listener"

-- The words of what an executor tells.
abbrev pub told_words : Told → List (List ℕ)
told_words (Count k) = codes "ok" ∷ decimal k ∷ []
told_words (Fail e) = codes "err" ∷ decimal e ∷ []

-- The words of an event.
abbrev pub event_words : Event → List (List ℕ)
event_words (Give kind) = codes "give" ∷ handle_kind_word kind ∷ []
event_words (Feed h bytes) = codes "feed" ∷ decimal h ∷ bytes_word bytes ∷ []
event_words (FeedMessage h address bytes) = codes "message" ∷ decimal h ∷ decimal address ∷ bytes_word bytes ∷ []
event_words (End h) = codes "end" ∷ decimal h ∷ []
event_words (Look h) = codes "look" ∷ decimal h ∷ []
event_words (Close h) = codes "close" ∷ decimal h ∷ []
event_words (Submit request None false) = codes "submit" ∷ request_words request
event_words (Submit request (Some handle) false) = codes "under" ∷ decimal handle ∷ request_words request
event_words (Submit request None true) = codes "link" ∷ request_words request
event_words (Submit request (Some handle) true) = codes "linkunder" ∷ decimal handle ∷ request_words request
event_words (Poll n task) = codes "poll" ∷ decimal n ∷ decimal task ∷ []
event_words (Drop n) = codes "drop" ∷ decimal n ∷ []
event_words (Cancel n) = codes "cancel" ∷ decimal n ∷ []
event_words NewCanceller = codes "canceller" ∷ []
event_words (NewHandle c) = codes "newhandle" ∷ decimal c ∷ []
event_words (CancelAll c) = codes "cancelall" ∷ decimal c ∷ []
event_words Turn = codes "turn" ∷ []
event_words (Exec place told) = codes "exec" ∷ decimal place ∷ told_words told

-- The text of an event.
abbrev pub event_text : Event → List ℕ
event_text event = spaced (event_words event)

-- What the program's executors may tell.
abbrev pub IsTold : Told → Type 0
IsTold (Count k) = k < 2 ^ 32
IsTold (Fail e) = e < 2 ^ 16

-- An event of the program: its numbers fit their types, its bytes are bytes, and its buffer, or its parts, keep their bounds.
abbrev pub IsEvent : Event → Type 0
IsEvent (Give kind) = Unit {0}
IsEvent (Feed h bytes) = (h < 2 ^ 64) × AreBytes bytes
IsEvent (FeedMessage h address bytes) = (h < 2 ^ 64) × (address < 2 ^ 64) × AreBytes bytes
IsEvent (End h) = h < 2 ^ 64
IsEvent (Look h) = h < 2 ^ 64
IsEvent (Close h) = h < 2 ^ 64
IsEvent (Submit request None linked) = IsRequest request
IsEvent (Submit request (Some handle) linked) = (handle < 2 ^ 64) × IsRequest request
IsEvent (Poll n task) = (n < 2 ^ 64) × (task < 2 ^ 64)
IsEvent (Drop n) = n < 2 ^ 64
IsEvent (Cancel n) = n < 2 ^ 64
IsEvent NewCanceller = Unit {0}
IsEvent (NewHandle c) = c < 2 ^ 64
IsEvent (CancelAll c) = c < 2 ^ 64
IsEvent Turn = Unit {0}
IsEvent (Exec place told) = (place < 2 ^ 64) × IsTold told

-- A line stands for an event exactly when it is its text.
pub record StandsFor (line : List ℕ) (event : Event) : Type 0 where
  pub typed : IsEvent event
  pub text : line ≡ event_text event

-- An event from outside an engine that links no requests: a call of its user, or what arrives at a handle. A turn, an execution and a
-- linked submission aren't.
abbrev pub IsExternal : Event → Type 0
IsExternal (Submit request under true) = ⊥
IsExternal Turn = ⊥
IsExternal (Exec place told) = ⊥
IsExternal event = Unit {0}

-- Events from outside the engine.
abbrev pub AreExternal : List Event → Type 0
AreExternal [] = Unit {0}
AreExternal (event ∷ events) = IsExternal event × AreExternal events

-- A line stands for an external event exactly when it is its text.
pub record StandsForExternal (line : List ℕ) (event : Event) : Type 0 where
  pub stands : StandsFor line event
  pub external : IsExternal event

-- What a line stands for: an external event, or any.
abbrev pub stands_for : Bool → List ℕ → Event → Type 0
stands_for true = StandsForExternal
stands_for false = StandsFor
