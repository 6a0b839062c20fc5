-- What is written is read again: the pieces of messages are read as these messages, with an end between messages.
use Rattle.std.specs.Prelude.{ℕ, ◌≡◌, ◌<◌, ◌≤◌, List, [], ◌∷◌, ◌++◌, length}
use Rattle.frame_io.specs.declared.fault.Ending.TheVariants.{End}
use Rattle.frame_io.specs.declared.limits.Limits.{Limits}
use Rattle.frame_io.specs.declared.message.Message.{Message}
use Rattle.frame_io.specs.Frames.{read_frames}
use Rattle.frame_io.specs.Piece.{pieces_of}

-- The pieces of messages, one message behind the other.
abbrev pub pieces_of_all : List Message → List ℕ
pieces_of_all [] = []
pieces_of_all (message ∷ messages) = pieces_of message.channel message.bytes ++ pieces_of_all messages

-- Bytes that were delivered, those that are buffered behind them, and the pieces of messages that are to follow, joined.
abbrev pub sent_with : List ℕ → List ℕ → List Message → List ℕ
sent_with delivered held messages = delivered ++ (held ++ pieces_of_all messages)

-- Messages that a reader with these limits takes.
abbrev pub AreWithin : Limits → List Message → Type 0
AreWithin limits [] = Unit {0}
AreWithin limits (message ∷ messages) =
    (message.channel < 4294967296) × (length message.bytes ≤ limits.bytes) × AreWithin limits messages

-- The pieces of messages are read as these messages, by any reader that keeps a channel open.
abbrev pub WrittenIsRead : Type 0
WrittenIsRead = (limits : Limits) (messages : List Message) → 0 < limits.channels → AreWithin limits messages
    → read_frames limits (pieces_of_all messages)
    ≡ record { messages = messages; ending = End; offset = length (pieces_of_all messages) }
