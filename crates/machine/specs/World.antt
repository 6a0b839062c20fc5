-- The state of a handle, and what feeding it, ending it and looking at it does.
use Rattle.std.specs.Prelude.{ℕ, ◌≡◌, Bool, true, false, not, ◌||◌, List, [], ◌∷◌, ◌++◌, unwrap_or, option_map, slice_get}
use Rattle.std.specs.Prelude.{Result, Ok, Err}
use Rattle.machine.specs.declared.world.HandleKind.{HandleKind}
use Rattle.machine.specs.declared.world.HandleKind.TheVariants.{Stream, Datagram, File, Pipe, Listener}
use Rattle.machine.specs.declared.world.HandleState.{HandleState}
use Rattle.machine.specs.declared.world.Look.{Look}
use Rattle.machine.specs.declared.world.WorldError.{WorldError}
use Rattle.machine.specs.declared.world.WorldError.TheVariants.{BadHandleEvent, OutOfMemory}
use Rattle.machine.specs.Lists.{amended, passes}

-- A new handle of a kind: it has no bytes and no messages, and its end isn't marked.
abbrev pub fresh : HandleKind → HandleState
fresh kind = record { kind = kind; input = []; messages_in = []; ended = false; output = []; messages_out = [] }

-- A handle of this kind is a datagram.
abbrev pub is_datagram : HandleKind → Bool
is_datagram Datagram = true
is_datagram _ = false

-- A handle of this kind is a file.
abbrev pub is_file : HandleKind → Bool
is_file File = true
is_file _ = false

-- A handle of this kind is a pipe.
abbrev pub is_pipe : HandleKind → Bool
is_pipe Pipe = true
is_pipe _ = false

-- A handle of this kind is a listener.
abbrev pub is_listener : HandleKind → Bool
is_listener Listener = true
is_listener _ = false

-- Bytes come out of a handle of this kind, in order, up to an end: it is a stream or a pipe.
abbrev pub gives_bytes : HandleKind → Bool
gives_bytes Stream = true
gives_bytes Pipe = true
gives_bytes _ = false

-- A handle of this kind can be connected: it is a stream or a datagram.
abbrev pub connects : HandleKind → Bool
connects Stream = true
connects Datagram = true
connects _ = false

-- Bytes can be sent to a handle of a kind whose end is marked, or isn't: to each stream, and to a pipe whose end isn't marked.
abbrev pub takes_if : HandleKind → Bool → Bool
takes_if Stream ended = true
takes_if Pipe ended = not ended
takes_if _ ended = false

-- Bytes can be sent to a handle.
abbrev pub takes_bytes : HandleState → Bool
takes_bytes handle = takes_if handle.kind handle.ended

-- The bytes that wait to be read on the handle of a number; none where there is no such handle.
abbrev pub input_at : List HandleState → ℕ → List ℕ
input_at world h = unwrap_or (option_map (λ handle. handle.input) (slice_get world h)) []

-- The messages that wait on the handle of a number, each with its address; none where there is no such handle.
abbrev pub messages_at : List HandleState → ℕ → List (ℕ × List ℕ)
messages_at world h = unwrap_or (option_map (λ handle. handle.messages_in) (slice_get world h)) []

-- Bytes join the input's end.
abbrev pub with_input : List ℕ → HandleState → HandleState
with_input bytes handle = record handle { input = handle.input ++ bytes }

-- A message joins those that wait: its address, and its bytes.
abbrev pub with_message : ℕ → List ℕ → HandleState → HandleState
with_message addr bytes handle = record handle { messages_in = handle.messages_in ++ (addr, bytes) ∷ [] }

-- The end is marked: no more bytes arrive.
abbrev pub with_end : HandleState → HandleState
with_end handle = record handle { ended = true }

-- Bytes join the output's end.
abbrev pub with_output : List ℕ → HandleState → HandleState
with_output bytes handle = record handle { output = handle.output ++ bytes }

-- What looking at a handle of a kind shows: the bytes that were sent to a stream, the bytes of a pipe or a file, the messages that were
-- sent by a datagram, and nothing of a listener.
abbrev pub shown_by_kind : HandleKind → HandleState → Look
shown_by_kind Stream handle = Look.Bytes handle.output
shown_by_kind Datagram handle = Look.Messages handle.messages_out
shown_by_kind File handle = Look.Bytes handle.input
shown_by_kind Pipe handle = Look.Bytes handle.input
shown_by_kind Listener handle = Look.Bytes []

-- What looking at a handle shows.
abbrev pub look_of : HandleState → Look
look_of handle = shown_by_kind handle.kind handle

-- What looking at the handle of a number shows; no bytes where there is no such handle.
abbrev pub look_at : List HandleState → ℕ → Look
look_at world h = unwrap_or (option_map look_of (slice_get world h)) (Look.Bytes [])

-- A handle takes no bytes that arrive: it is a datagram or a listener, or its end is marked.
abbrev pub refuses_feed : HandleState → Bool
refuses_feed handle = is_datagram handle.kind || is_listener handle.kind || handle.ended

-- A handle takes no message that arrives: it is no datagram.
abbrev pub refuses_message : HandleState → Bool
refuses_message handle = not (is_datagram handle.kind)

-- A handle takes no end: it is neither a stream nor a pipe, or its end is marked.
abbrev pub refuses_end : HandleState → Bool
refuses_end handle = not (gives_bytes handle.kind) || handle.ended

-- What changing a handle by what arrives answers and leaves, where a test refuses it: one case for each answer. It is refused exactly
-- when the test passes, else it may run out of memory.
abbrev pub Arrives : (HandleState → Bool) → (HandleState → HandleState) → List HandleState → ℕ → List HandleState →
    Result Unit WorldError → Type 0
Arrives refuses change old h new (Ok done) = (passes refuses (slice_get old h) ≡ false) × (new ≡ amended old h change)
Arrives refuses change old h new (Err BadHandleEvent) = (passes refuses (slice_get old h) ≡ true) × (new ≡ old)
Arrives refuses change old h new (Err OutOfMemory) = (passes refuses (slice_get old h) ≡ false) × (new ≡ old)

-- What feeding a handle answers and leaves.
abbrev pub WorldFeeds : List ℕ → List HandleState → ℕ → List HandleState → Result Unit WorldError → Type 0
WorldFeeds bytes old h new result = Arrives refuses_feed (with_input bytes) old h new result

-- What feeding a message to a handle answers and leaves.
abbrev pub WorldFeedsMessage : ℕ → List ℕ → List HandleState → ℕ → List HandleState → Result Unit WorldError → Type 0
WorldFeedsMessage addr bytes old h new result = Arrives refuses_message (with_message addr bytes) old h new result

-- What ending a handle answers and leaves: one case for each answer. It is refused exactly when the handle takes no end, and never runs
-- out of memory.
abbrev pub WorldEnds : List HandleState → ℕ → List HandleState → Result Unit WorldError → Type 0
WorldEnds old h new (Ok done) = (passes refuses_end (slice_get old h) ≡ false) × (new ≡ amended old h with_end)
WorldEnds old h new (Err BadHandleEvent) = (passes refuses_end (slice_get old h) ≡ true) × (new ≡ old)
WorldEnds old h new (Err OutOfMemory) = ⊥
